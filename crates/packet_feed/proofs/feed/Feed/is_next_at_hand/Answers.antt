use Rattle.std.proofs.Common.{leb-true}
use Rattle.packet_feed.proofs.Cutting.{begins_with}
use Rattle.packet_feed.proofs.feed.Feed.is_next_at_hand.Goals as goal

pub returns-then-octets-ge-HEADER_SIZE : goal.returns-then-octets-ge-HEADER_SIZE
returns-then-octets-ge-HEADER_SIZE g c = λ there.
    begins_with (g.S.Source.left c.args.self.now.source) c.at_hand-octets.result.now c.packet_size.result c.header_at.result c.if-octets-ge-HEADER_SIZE.true c.packet_size.ensures.size c.header_at.ensures (leb-true _ _ there) c.at_hand-octets.ensures
