use Rattle.std.proofs.Common.{◌∙◌, Err, Some, true, subst, refl, sym}
use Rattle.std.specs.Arc.{arc_value}
use Rattle.mib_model.specs.declared.database.Database.{Database}
use Rattle.run_model.specs.DeskLines as Spec
use Rattle.mib_model.specs.Plans.{plans}
use Rattle.edition_register.specs.declared.outcome.AddOnFault.{AddOnFault}
use Rattle.edition_register.specs.Panels.{AddsOn}
use Rattle.edition_register.specs.Seats.{first_of}
use Rattle.run_model.specs.declared.register.Answer.TheVariants as answer
use Rattle.run_model.specs.declared.reply.Reply.TheVariants as reply
use Rattle.run_model.specs.Desk.{Plain, Stale}
use Rattle.desk.specs.Drafts.{Drafted, state_by}
use Rattle.desk.specs.Handling.{HandlesAt}
use Rattle.turn_cell.specs.Seats.{number_of, own_moves}
use Rattle.panel_desk.specs.State.{panel_state}
use Rattle.desk.proofs.HandlingFacts.{save-none, save-added, save-refused}
use Rattle.panel_desk.proofs.panel_desk.PanelDesk.save.Goals as goal

pub returns-in-Err-clause-handles : goal.returns-in-Err-clause-handles
returns-in-Err-clause-handles g c = save-none true (number_of c.args.seat.now) (panel_state c.args.self.now) (own_moves c.args.seat.now) c.in-Err.reply c.in-Err.ensures.ready

pub returns-in-Ok-add_on-clause-handles : goal.returns-in-Ok-add_on-clause-handles
returns-in-Ok-add_on-clause-handles g c =
    let ready = c.in-Ok.ensures.ready in let number = number_of c.args.seat.now in
    subst (λ (d : Drafted). HandlesAt true number Spec.Save (panel_state c.args.self.now) (own_moves c.args.seat.now) (own_moves c.add_on.new.seat) (Some (Plain (reply.Saved c.in-Ok-add_on.edition c.in-Ok.ready.plans))) (state_by c.in-Ok-add_on.edition d)) (sym c.rebase.ensures)
    (save-added true number (panel_state c.args.self.now) (own_moves c.args.seat.now) _ _ _ c.in-Ok-add_on.edition c.in-Ok.ready.plans ready.0 (c.in-Ok-try_clone.ensures ∙ ready.1.edition) ready.1.edition ready.1.count c.in-Ok-add_on.ensures.adds.own)

pub returns-in-Err-Stale-clause-handles : goal.returns-in-Err-Stale-clause-handles
returns-in-Err-Stale-clause-handles g c =
    let ready = c.in-Ok.ensures.ready in let newer = c.in-Err-Stale.newer in let number = number_of c.args.seat.now in let payload = c.in-Ok-try_clone.payload in
    let adds = subst (λ (r : AddOnFault Database). AddsOn number (first_of c.args.register.now) c.args.seat.now c.add_on.new.seat c.args.self.now.edition (arc_value payload) (plans (arc_value payload)) payload (Err r)) c.in-Err-Stale.field-0-is c.in-Err-Stale.ensures.adds in
    save-refused true number (panel_state c.args.self.now) (own_moves c.args.seat.now) _ _ (answer.Stale newer) (Stale newer) ready.0 (c.in-Ok-try_clone.ensures ∙ ready.1.edition) refl adds.0.own

pub returns-clause-handles : goal.returns-clause-handles
returns-clause-handles g c =
    let ready = c.in-Ok.ensures.ready in let number = number_of c.args.seat.now in let payload = c.in-Ok-try_clone.payload in
    let adds = subst (λ (r : AddOnFault Database). AddsOn number (first_of c.args.register.now) c.args.seat.now c.add_on.new.seat c.args.self.now.edition (arc_value payload) (plans (arc_value payload)) payload (Err r)) c.in-Err-Full.field-0-is c.in-Err-Full.ensures.adds in
    save-refused true number (panel_state c.args.self.now) (own_moves c.args.seat.now) _ _ answer.FullEditions (Plain reply.FullEditions) ready.0 (c.in-Ok-try_clone.ensures ∙ ready.1.edition) refl adds.0.own
