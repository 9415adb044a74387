use Rattle.std.proofs.Common.{arith}
use Rattle.line_text.proofs.PlaceFacts.{window}
use Rattle.record_text.proofs.value.put_end.Goals as goal

pub returns-clause-text : goal.returns-clause-text
returns-clause-text c =
    window c.args.octets.now c.add_end.new.line _ _ c.args.used c.add_end.result c.add_end.ensures.text
    (omega (arith, c.requires.room, c.add_end.ensures.room, c.add_end.ensures.kept)) (omega (arith, c.requires.room))
