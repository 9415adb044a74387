use Rattle.std.proofs.Common.{◌∙◌, ap, sym}
use Rattle.mib_model.specs.declared.database.Database.{Database}
use Rattle.numbered_plans.specs.Numbered.{plan_at}
use Rattle.numbered_plans.proofs.plan_set.PlanSet.taken_over.Goals as goal

pub invariant_of-result : goal.invariant_of-result
invariant_of-result g c = λ number.
    let rows = λ (db : Database). g.P.NumberedPlan.rows_at db number in
    (λ i. plan_at (c.in_ok-try_clone.ensures i).map number) ∙ c.self.invariant number ∙ ap rows c.self.view_is ∙ c.requires number ∙ ap rows (sym c.of.ensures)
