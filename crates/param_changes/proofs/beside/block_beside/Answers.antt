use Rattle.std.proofs.Common.{◌≡◌, ◌∙◌, ◌++◌, List, ap, arith, length, rules, sym}
use Rattle.std.proofs.lemmas.List.{append-nil}
use Rattle.std.specs.Arc.{arc_value}
use Rattle.param_state.specs.ParamPlans.{plan_names}
use Rattle.param_plan.specs.Slices.{ParamSlice}
use Rattle.param_changes.proofs.TouchFacts.{untouched-none, untouched-now}
use Rattle.param_changes.proofs.beside.block_beside.Goals as goal

pub returns-then-not-is_touched-clause-block : goal.returns-then-not-is_touched-clause-block
returns-then-not-is_touched-clause-block g c =
    let is : arc_value c.in_ok-clone.field-0 ≡ arc_value c.args.block.now = search rules in
    is ∙ untouched-now c.args.changed.now c.args.sources.now (arc_value c.args.block.now) c.requires.kept (c.requires.untouched c.if-not-is_touched.true)

pub returns-then-not-is_touched-clause-compiled : goal.returns-then-not-is_touched-clause-compiled
returns-then-not-is_touched-clause-compiled g c =
    let own = c.args.compiled.now.items in
    let none = untouched-none c.args.changed.now c.args.sources.now (arc_value c.args.block.now) c.requires.kept (c.requires.untouched c.if-not-is_touched.true) in
    sym (ap (λ (slices : List ParamSlice). own ++ plan_names slices) none ∙ append-nil own)

pub returns-then-not-is_touched-clause-steps : goal.returns-then-not-is_touched-clause-steps
returns-then-not-is_touched-clause-steps g c =
    let none = untouched-none c.args.changed.now c.args.sources.now (arc_value c.args.block.now) c.requires.kept (c.requires.untouched c.if-not-is_touched.true) in
    omega (arith, ap length none)
