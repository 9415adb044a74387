use Rattle.std.proofs.Common.{◌≡◌, ◌∙◌, ap, arith}
use Rattle.std.proofs.lemmas.Int.{ints}
use Rattle.mib_model.specs.declared.database.Database.{Database}
use Rattle.numbered_plans.specs.Numbered.{plan_at}
use Rattle.numbered_plans.proofs.plan_set.PlanSet.handle.Goals as goal
use mir.Syntax.{w128}
use mir.Val.{of_z, to_z}

pub returns : goal.returns
returns g c =
    let number = c.args.number in
    let key : to_z w128 (of_z w128 number) ≡ number = omega (arith, ints) in
    c.get.ensures
    ∙ (λ i. plan_at (c.deref.ensures i).map (key i))
    ∙ c.self.invariant number
    ∙ ap (λ (db : Database). g.P.NumberedPlan.rows_at db number) c.self.view_is
