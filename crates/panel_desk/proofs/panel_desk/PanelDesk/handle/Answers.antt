use Rattle.std.proofs.Common.{true, Option, subst, sym}
use Rattle.std.specs.Prelude.{option_map}
use Rattle.run_model.specs.Desk.{DeskReply, Plain}
use Rattle.turn_cell.specs.Seats.{number_of, own_moves}
use Rattle.desk_lines.specs.Requests.{asked}
use Rattle.desk.specs.Drafts.{state_by}
use Rattle.desk.specs.Handling.{HandlesAt, Ticks}
use Rattle.desk.proofs.HandlingFacts.{handled-edit, ticks-none}
use Rattle.panel_desk.specs.State.{panel_state}
use Rattle.panel_desk.proofs.panel_desk.PanelDesk.handle.Goals as goal

pub returns-in-Ok-clause-handles : goal.returns-in-Ok-clause-handles
returns-in-Ok-clause-handles g c =
    let number = number_of c.args.seat.now in let own = own_moves c.args.seat.now in let edition = c.args.self.now.edition in
    subst (λ (given : Option DeskReply). HandlesAt true number (asked c.args.request) (panel_state c.args.self.now) own own given (state_by edition c.edit.new.draft)) (sym c.plain.ensures)
    (handled-edit true number (asked c.args.request) edition c.args.self.now.draft c.edit.new.draft own c.in-Ok.reply c.in-Ok.ensures.edits)

pub returns-in-Ok-clause-steps : goal.returns-in-Ok-clause-steps
returns-in-Ok-clause-steps g c = let steps = c.args.steps.now in
    subst (λ (given : Option DeskReply). Ticks (asked c.args.request) given steps steps) (sym c.plain.ensures) (ticks-none (asked c.args.request) (option_map Plain c.in-Ok.reply) steps c.in-Ok.ensures.unentered)
