use Rattle.std.proofs.Common.{arith}
use Rattle.line_text.proofs.PlaceFacts.{window}
use Rattle.record_text.proofs.value.put_begin.Goals as goal

pub returns-clause-text : goal.returns-clause-text
returns-clause-text c =
    window c.args.octets.now c.add_begin.new.line _ _ c.args.used c.add_begin.result c.add_begin.ensures.text
    (omega (arith, c.requires.room, c.add_begin.ensures.room, c.add_begin.ensures.kept)) (omega (arith, c.requires.room))
