use Rattle.std.proofs.Common.{◌∙◌, Some, false, subst, refl, sym}
use Rattle.run_model.specs.DeskLines as Spec
use Rattle.run_model.specs.declared.register.Answer.TheVariants as answer
use Rattle.run_model.specs.declared.reply.Reply.TheVariants as reply
use Rattle.run_model.specs.Desk.{Plain}
use Rattle.desk.specs.Drafts.{Drafted, state_by}
use Rattle.desk.specs.Handling.{HandlesAt}
use Rattle.turn_cell.specs.Seats.{own_moves}
use Rattle.desk.specs.State.{desk_of}
use Rattle.desk.proofs.HandlingFacts.{save-none, save-added, save-refused}
use Rattle.desk.proofs.desk.Desk.save.Goals as goal

pub returns-in-Err-clause-handles : goal.returns-in-Err-clause-handles
returns-in-Err-clause-handles g c = save-none false 1 (desk_of c.args.self.now) (own_moves c.args.seat.now) c.in-Err.reply c.in-Err.ensures.ready

pub returns-in-Ok-add-clause-handles : goal.returns-in-Ok-add-clause-handles
returns-in-Ok-add-clause-handles g c =
    let ready = c.in-Ok.ensures.ready in
    subst (λ (d : Drafted). HandlesAt false 1 Spec.Save (desk_of c.args.self.now) (own_moves c.args.seat.now) (own_moves c.add.new.seat) (Some (Plain (reply.Saved c.in-Ok-add.edition c.in-Ok.ready.plans))) (state_by c.in-Ok-add.edition d)) (sym c.rebase.ensures)
    (save-added false 1 (desk_of c.args.self.now) (own_moves c.args.seat.now) _ _ _ c.in-Ok-add.edition c.in-Ok.ready.plans ready.0 (c.in-Ok-try_clone.ensures ∙ c.plans.ensures ∙ c.deref.ensures ∙ ready.1.edition) ready.1.edition ready.1.count c.in-Ok-add.ensures.adds.own)

pub returns-in-Err-Full-clause-handles : goal.returns-in-Err-Full-clause-handles
returns-in-Err-Full-clause-handles g c =
    let ready = c.in-Ok.ensures.ready in
    save-refused false 1 (desk_of c.args.self.now) (own_moves c.args.seat.now) _ _ answer.FullEditions (Plain reply.FullEditions) ready.0 (c.in-Ok-try_clone.ensures ∙ c.plans.ensures ∙ c.deref.ensures ∙ ready.1.edition) refl c.in-Err-Full.ensures.adds.0.own
