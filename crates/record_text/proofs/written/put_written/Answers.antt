use Rattle.std.proofs.Common.{arith}
use Rattle.line_text.proofs.PlaceFacts.{window}
use Rattle.record_text.proofs.written.put_written.Goals as goal

pub returns-clause-text : goal.returns-clause-text
returns-clause-text c =
    window c.args.octets.now c.add_few.new.line _ _ c.args.used c.add_few.result c.add_few.ensures.text
    (omega (arith, c.requires.room, c.requires.few, c.add_few.ensures.room, c.add_few.ensures.kept)) (omega (arith, c.requires.room))
