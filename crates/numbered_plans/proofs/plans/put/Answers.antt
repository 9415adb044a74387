use Rattle.std.proofs.Common.{◌≡◌, ◌∙◌, Some, ap, arith, pos, sym}
use Rattle.std.proofs.lemmas.Int.{ints}
use Rattle.numbered_plans.proofs.KeptFacts.{kept-more}
use Rattle.numbered_plans.specs.Numbered.{plan_at}
use Rattle.numbered_plans.proofs.plans.put.Goals as goal
use mir.Syntax.{w128}
use mir.Val.{of_z, to_z}

pub returns-in_ok-plan : goal.returns-in_ok-plan
returns-in_ok-plan g c =
    let key : to_z w128 (of_z w128 c.from.result) ≡ pos c.args.number = omega (arith, ints) in
    kept-more c.args.map.now c.args.by_number.now c.put.new.self _ c.put.ensures
    (sym (c.in-Some.ensures ∙ (λ i. plan_at c.args.map.now (key i))) ∙ ap Some (sym c.in_ok-plan.ensures.cases))
