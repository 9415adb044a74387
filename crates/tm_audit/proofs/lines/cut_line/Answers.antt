use Rattle.std.proofs.Common.{arith}
use Rattle.tm_audit.proofs.LineFacts.{no-lines}
use Rattle.tm_audit.proofs.lines.cut_line.Goals as goal

pub returns-then-is_empty-clause-none : goal.returns-then-is_empty-clause-none
returns-then-is_empty-clause-none c = no-lines c.args.text.now (grind (arith, c.is_empty.ensures, c.if-is_empty.true))
