use Rattle.std.proofs.Common.{arith}
use Rattle.line_text.proofs.PlaceFacts.{window}
use Rattle.record_text.proofs.record.put_head.Goals as goal

pub returns-clause-text : goal.returns-clause-text
returns-clause-text c =
    window c.args.octets.now c.add_head.new.line _ _ c.args.used c.add_head.result c.add_head.ensures.text
    (omega (arith, c.requires, c.add_head.ensures.room, c.add_head.ensures.kept)) (omega (arith, c.requires))
