use Rattle.std.proofs.Common.{◌+◌, arith}
use Rattle.tm_audit.proofs.LineFacts.{first-of-lines}
use Rattle.tm_audit.proofs.lines.line_size.Goals as goal

pub returns-then-before-text-clause-lines : goal.returns-then-before-text-clause-lines
returns-then-before-text-clause-lines c =
    first-of-lines c.args.text.now (c.before_feed-before.result + 1) (omega (arith, c.before_feed-before.ensures.place, c.if-before-text.true)) c.requires

pub returns-else-before-text-clause-lines : goal.returns-else-before-text-clause-lines
returns-else-before-text-clause-lines c =
    first-of-lines c.args.text.now c.before_feed-before.result (omega (arith, c.before_feed-before.ensures.place, c.before_feed-before.ensures.fits, c.if-before-text.false)) c.requires
