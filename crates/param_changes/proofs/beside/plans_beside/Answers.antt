use Rattle.std.proofs.Common.{◌≡◌, ◌∙◌, ◌+◌, ◌++◌, [], ◌∷◌, ℕ, Global, List, ap, arith, filter, length, map, subst, sym, take}
use Rattle.std.proofs.lemmas.List.{append_assoc, map-append}
use Rattle.std.specs.Arc.{arc_value}
use Rattle.std.specs.declared.sync.Arc.{Arc}
use Rattle.param_state.specs.ParamPlans.{plan_names}
use Rattle.param_plan.specs.Slices.{ParamSlice}
use Rattle.param_changes.proofs.BesideFacts.{count-one}
use Rattle.param_set.proofs.CountFacts.{count-more, names-more}
use Rattle.param_set.proofs.ImageFacts.{image-at, images-all, images-more}
use Rattle.param_changes.proofs.AlikeFacts.{name-now}
use Rattle.param_changes.specs.Beside.{IsKeptBy, is_other, now_of}
use Rattle.param_set.specs.Sharing.{name_if}
use Rattle.param_changes.proofs.beside.plans_beside.Goals as goal

pub plan_beside-requires : goal.plan_beside-requires
plan_beside-requires g c =
    let plan = c.plan-item.result in
    let at = image-at arc_value c.plans-plan-items.result.now c.args.block.now c.plans-plan-items.ensures c.loop-plan.plan-index plan c.loop-plan-test.true c.plan-item.is in
    subst (λ (slice : ParamSlice). IsKeptBy c.args.changed.now slice c.args.sources.now) (sym at.1) (c.requires c.loop-plan.plan-index (arc_value plan) at.0)

pub loop-plan-preserved : goal.loop-plan-preserved
loop-plan-preserved g c =
    let i : ℕ = c.loop-plan.plan-index in
    let plans : List (Arc ParamSlice Global) = c.plans-plan-items.result.now in
    let db = c.args.sources.now in
    let before : List ParamSlice = map arc_value (take i plans) in
    let slice : ParamSlice = arc_value c.plan-item.result in
    let own = c.args.compiled.now.items in
    let more : map arc_value (take (i + 1) plans) ≡ before ++ slice ∷ [] = images-more arc_value plans i c.plan-item.result c.loop-plan-test.true c.plan-item.is in
    record {
      plans =
          ap (map arc_value) c.in_ok-push.ensures.items
          ∙ map-append arc_value c.loop-plan.plans.items (c.in_ok-made.made.param ∷ [])
          ∙ (λ j. c.loop-plan.invariant.plans j ++ c.in_ok-made.ensures.plan j ∷ [])
          ∙ sym (map-append (now_of db) before (slice ∷ []))
          ∙ ap (map (now_of db)) (sym more);
      compiled =
          c.in_ok-note.ensures
          ∙ (λ j. c.loop-plan.invariant.compiled j ++ name_if (c.in_ok-made.ensures.is_new j) (c.in_ok-made.ensures.plan j).pcf.name)
          ∙ append_assoc own (plan_names (filter (is_other db) before)) (name_if (is_other db slice) (now_of db slice).pcf.name)
          ∙ ap (λ (name : List ℕ). own ++ (plan_names (filter (is_other db) before) ++ name_if (is_other db slice) name)) (name-now db slice.pcf)
          ∙ ap (λ (names : List (List ℕ)). own ++ names) (sym (names-more (is_other db) before slice))
          ∙ ap (λ (slices : List ParamSlice). own ++ plan_names (filter (is_other db) slices)) (sym more);
      steps =
          let count = count-more (is_other db) before slice in
          let all = ap (λ (slices : List ParamSlice). length (filter (is_other db) slices)) more in
          omega (arith, c.in_ok-made.ensures.steps, c.loop-plan.invariant.steps, count, all, count-one (is_other db) slice);
    }

pub returns-clause-plans : goal.returns-clause-plans
returns-clause-plans g c =
    let all : map arc_value (take c.loop-plan.plan-index c.plans-plan-items.result.now) ≡ c.args.block.now =
    images-all arc_value c.plans-plan-items.result.now c.args.block.now c.plans-plan-items.ensures c.loop-plan.plan-index c.loop-plan-test.false in
    c.loop-plan.invariant.plans ∙ ap (map (now_of c.args.sources.now)) all

pub returns-clause-compiled : goal.returns-clause-compiled
returns-clause-compiled g c =
    let all : map arc_value (take c.loop-plan.plan-index c.plans-plan-items.result.now) ≡ c.args.block.now =
    images-all arc_value c.plans-plan-items.result.now c.args.block.now c.plans-plan-items.ensures c.loop-plan.plan-index c.loop-plan-test.false in
    c.loop-plan.invariant.compiled ∙ ap (λ (slices : List ParamSlice). c.args.compiled.now.items ++ plan_names (filter (is_other c.args.sources.now) slices)) all

pub returns-clause-steps : goal.returns-clause-steps
returns-clause-steps g c =
    let all : map arc_value (take c.loop-plan.plan-index c.plans-plan-items.result.now) ≡ c.args.block.now =
    images-all arc_value c.plans-plan-items.result.now c.args.block.now c.plans-plan-items.ensures c.loop-plan.plan-index c.loop-plan-test.false in
    let count = ap (λ (slices : List ParamSlice). length (filter (is_other c.args.sources.now) slices)) all in
    omega (arith, c.loop-plan.invariant.steps, count)
