use Rattle.std.proofs.Common.{◌≡◌, ◌∙◌, All, List, false, nat_eq, ap, arith, filter, flat_map, length, map, subst, sym, take}
use Rattle.std.proofs.lemmas.List.{take_all}
use Rattle.std.specs.Arc.{arc_value}
use Rattle.std.specs.List.{list_any}
use Rattle.param_state.specs.ParamPlans.{plan_names}
use Rattle.param_plan.specs.Names.{Ascend}
use Rattle.param_plan.specs.Slices.{ParamSlice}
use Rattle.param_plan.proofs.BlockFacts.{cut-alike, cut-map, flat-alike, map-blocks}
use Rattle.param_changes.proofs.BesideFacts.{count-others, new-others}
use Rattle.param_changes.proofs.TouchFacts.{all-block, untouched-block}
use Rattle.param_changes.specs.Beside.{AreFreeOf, IsKeptBy, has_changed, is_other, now_of}
use Rattle.param_changes.specs.Touches.{Touches}
use Rattle.param_changes.proofs.beside.blocks_beside.Goals as goal

pub block_beside-requires-clause-kept : goal.block_beside-requires-clause-kept
block_beside-requires-clause-kept g c =
    let db = c.args.sources.now in
    let changed = c.args.changed.now in
    let blocks = c.blocks-all.result.now in
    let block = c.index-all-at.result in
    let kept : ParamSlice → Type 0 = λ slice. IsKeptBy changed slice db in
    let whole : All kept (flat_map arc_value blocks) = subst (All kept) (sym c.blocks-all.ensures.plans) c.requires in
    subst (λ block. All kept (arc_value block)) (sym c.index-all-at.is)
    (all-block arc_value blocks c.blocks-all.ensures.cut c.loop-at.at block (omega (arith, c.loop-at-test.true)) kept whole)

pub block_beside-requires-clause-untouched : goal.block_beside-requires-clause-untouched
block_beside-requires-clause-untouched g c = λ none.
    let changed = c.args.changed.now in
    let blocks = c.blocks-all.result.now in
    let block = c.index-all-at.result in
    let told = c.is_touched-is_touched.ensures none in
    let touched = c.in_ok-touched.touched.items in
    let apart : ParamSlice → Type 0 = λ slice. has_changed changed slice ≡ false in
    let none_there : list_any (λ n. nat_eq n c.loop-at.at) touched ≡ false = ap (list_any (λ n. nat_eq n c.loop-at.at)) (sym c.deref-in-loop-at.ensures.value) ∙ told.0 in
    let base : flat_map arc_value blocks ≡ c.args.base.now = c.blocks-all.ensures.plans in
    let named : All apart (arc_value block) = subst (λ block. All apart (arc_value block)) (sym c.index-all-at.is)
    (untouched-block arc_value blocks c.blocks-all.ensures.cut c.loop-at.at block (omega (arith, c.loop-at-test.true)) touched changed.parameters.items
    (subst Ascend (sym base) c.blocks-all.ensures.ascend) (subst (λ (slices : List ParamSlice). Touches touched slices changed.parameters.items) (sym base) c.in_ok-touched.ensures) none_there) in
    (named, subst (AreFreeOf changed) c.deref.ensures told.1)

pub returns-clause-blocks : goal.returns-clause-blocks
returns-clause-blocks g c =
    let now = now_of c.args.sources.now in
    let blocks = c.blocks-all.result.now in
    let new = c.loop-at.blocks.items in
    let same : map arc_value new ≡ map (λ block. map now (arc_value block)) blocks = c.loop-at.invariant.blocks ∙ ap (map (λ block. map now (arc_value block))) (take_all c.loop-at.at blocks (omega (arith, c.loop-at-test.false))) in
    flat-alike arc_value (λ block. map now (arc_value block)) new blocks same ∙ sym (map-blocks arc_value now blocks) ∙ ap (map now) c.blocks-all.ensures.plans

pub returns-clause-cut : goal.returns-clause-cut
returns-clause-cut g c =
    let now = now_of c.args.sources.now in
    let blocks = c.blocks-all.result.now in
    let new = c.loop-at.blocks.items in
    let same : map arc_value new ≡ map (λ block. map now (arc_value block)) blocks = c.loop-at.invariant.blocks ∙ ap (map (λ block. map now (arc_value block))) (take_all c.loop-at.at blocks (omega (arith, c.loop-at-test.false))) in
    cut-alike (λ block. map now (arc_value block)) arc_value blocks new (sym same) (cut-map arc_value now blocks c.blocks-all.ensures.cut)

pub returns-clause-compiled : goal.returns-clause-compiled
returns-clause-compiled g c =
    let db = c.args.sources.now in
    let blocks = c.blocks-all.result.now in
    let all : flat_map arc_value (take c.loop-at.at blocks) ≡ c.args.base.now = ap (flat_map arc_value) (take_all c.loop-at.at blocks (omega (arith, c.loop-at-test.false))) ∙ c.blocks-all.ensures.plans in
    c.loop-at.invariant.compiled ∙ ap (λ (slices : List ParamSlice). plan_names (filter (is_other db) slices)) all ∙ sym (new-others db c.args.base.now c.blocks-all.ensures.ascend)

pub returns-clause-steps : goal.returns-clause-steps
returns-clause-steps g c =
    let db = c.args.sources.now in
    let blocks = c.blocks-all.result.now in
    let all : flat_map arc_value (take c.loop-at.at blocks) ≡ c.args.base.now = ap (flat_map arc_value) (take_all c.loop-at.at blocks (omega (arith, c.loop-at-test.false))) ∙ c.blocks-all.ensures.plans in
    let count = ap (λ (slices : List ParamSlice). length (filter (is_other db) slices)) all ∙ sym (count-others db c.args.base.now c.blocks-all.ensures.ascend) in
    omega (arith, c.loop-at.invariant.steps, count)
