use Rattle.std.proofs.Common.{arith}
use Rattle.line_text.proofs.PlaceFacts.{joined_ends}
use Rattle.line_text.proofs.fast.stand.ends.Goals as goal

pub returns : goal.returns
returns g c =
    joined_ends c.put.new.octets c.put-2.new.octets c.part-first.result c.part-last.result c.args.text.now g.row.N
    c.put.ensures.text c.put-2.ensures.text (omega (arith, c.put-2.ensures.kept, c.put.ensures.kept, c.requires.twice)) c.part-first.ensures c.part-last.ensures c.requires.some
