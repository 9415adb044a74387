use Rattle.std.proofs.Common.{◌∙◌, ap, sym}
use Rattle.mib_model.specs.declared.database.Database.{Database}
use Rattle.numbered_plans.specs.Numbered.{plan_at}
use Rattle.numbered_plans.proofs.plan_set.PlanSet.compared.Goals as goal

pub invariant_of-set : goal.invariant_of-set
invariant_of-set g c = λ number.
    let rows = λ (db : Database). g.P.NumberedPlan.rows_at db number in
    (λ i. plan_at (c.in_ok-new.ensures.ok i).map number) ∙ c.in_ok-built.ensures.plans number ∙ ap rows (sym c.of.ensures)
