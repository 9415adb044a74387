use Rattle.std.proofs.Common.{sym, ◌∙◌}
use Rattle.panel_lines.proofs.TakeFacts.{taken, not-taken}
use Rattle.panel_lines.proofs.request.panel_request_of.Goals as goal

pub returns-then-is_take : goal.returns-then-is_take
returns-then-is_take c = taken c.args.line.now (sym c.is_take.ensures ∙ c.if-is_take.true)

pub returns-else-is_take : goal.returns-else-is_take
returns-else-is_take c = c.request_of.ensures ∙ sym (not-taken c.args.line.now (sym c.is_take.ensures ∙ c.if-is_take.false))
