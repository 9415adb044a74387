use Rattle.std.proofs.Common.{true, sym, ap, ◌∙◌}
use Rattle.panel_desk.specs.State.{panel_state}
use Rattle.panel_lines.specs.Requests.{panel_asked}
use Rattle.desk.proofs.HandlingFacts.{handled-line}
use Rattle.turn_cell.specs.Seats.{number_of}
use Rattle.panel_desk.proofs.panel_desk.PanelDesk.line.Goals as goal

pub returns-in-Take-clause-handles : goal.returns-in-Take-clause-handles
returns-in-Take-clause-handles g c = handled-line true (number_of c.args.seat.now) _ c.args.line.now (panel_state c.args.self.now) _ _ _ _ (ap panel_asked (sym c.in-Take.is) ∙ c.panel_request_of.ensures) c.take.ensures.handles

pub returns-in-Plain-clause-handles : goal.returns-in-Plain-clause-handles
returns-in-Plain-clause-handles g c = handled-line true (number_of c.args.seat.now) _ c.args.line.now (panel_state c.args.self.now) _ _ _ _ (ap panel_asked (sym c.in-Plain.is) ∙ c.panel_request_of.ensures) c.handle.ensures.handles
