use Rattle.std.proofs.Common.{ap, subst, sym}
use Rattle.tool_words.specs.Behind.{asked_by}
use Rattle.tool_words.specs.Panels.{AsksPanel, panel_asked, panel_in}
use Rattle.tool_words.proofs.panel.panel_request_in.Goals as goal

pub returns-in-Some : goal.returns-in-Some
unfolding panel_in
returns-in-Some c = subst (λ rest. AsksPanel c.panel_behind.result (asked_by panel_asked rest)) c.in-Some.ensures c.panel_behind.ensures

pub returns-in-None : goal.returns-in-None
unfolding panel_in
returns-in-None c = ap (asked_by panel_asked) (sym c.in-None.ensures)
