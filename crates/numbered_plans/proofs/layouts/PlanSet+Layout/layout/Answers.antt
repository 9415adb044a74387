use Rattle.std.proofs.Common.{◌≡◌, ◌∙◌, arith, pos}
use Rattle.std.proofs.lemmas.Int.{ints}
use Rattle.numbered_plans.proofs.LayoutFacts.{numbered-spid}
use Rattle.numbered_plans.specs.Layouts.{layout_numbered}
use Rattle.numbered_plans.proofs.layouts.PlanSet+Layout.layout.Goals as goal
use mir.Syntax.{w128}
use mir.Val.{of_z, to_z}

pub returns : goal.returns
returns c =
    let key : to_z w128 (of_z w128 c.from.result) ≡ pos c.args.spid = omega (arith, ints) in
    c.plan.ensures ∙ (λ i. layout_numbered c.args.self.now (key i)) ∙ numbered-spid c.args.self.now c.args.spid
