use Rattle.std.proofs.Common.{arith, length-take}
use Rattle.packet_feed.proofs.Cutting.{took_rest}
use Rattle.packet_feed.proofs.feed.Feed.next.Goals as goal

pub returns-in_default-clause-gives : goal.returns-in_default-clause-gives
returns-in_default-clause-gives g c =
    let (count, less, taken) = c.in_default.ensures.part in
    took_rest _ _ c.fill.new.buf count c.first_part-part.result (omega (arith, c.fill.auto.buf, length-take c.first_part-part.result c.args.into.now)) less c.first_part-part.ensures.within taken
