use Rattle.std.proofs.Common.{◌≡◌, ◌∙◌, ◌+◌, ◌++◌, [], ◌∷◌, Bor, ℕ, List, ap, arith, filter, length, map, sym, take}
use Rattle.std.proofs.lemmas.List.{map-append}
use Rattle.std.specs.Arc.{arc_value}
use Rattle.param_state.specs.ParamPlans.{plan_names}
use Rattle.mib_model.specs.declared.rows.PcfRow.{PcfRow}
use Rattle.param_plan.specs.Slices.{ParamSlice, slice_for}
use Rattle.param_set.proofs.CountFacts.{count-more, names-more}
use Rattle.param_set.proofs.ImageFacts.{images-more}
use Rattle.param_set.specs.Sharing.{is_new, name_if}
use Rattle.param_set.proofs.set.plans_of.Goals as goal

pub loop-row-preserved : goal.loop-row-preserved
loop-row-preserved g c =
    let i : ℕ = c.loop-row.row-index in
    let rows : List (Bor PcfRow) = c.args.rows.now in
    let db = c.args.sources.now in
    let base : List ParamSlice = c.args.base.now in
    let before : List PcfRow = map (λ (row : Bor PcfRow). row.now) (take i rows) in
    let slice : ParamSlice = slice_for db c.row-item.result.now in
    let plan : arc_value c.in_ok-plan.plan.param ≡ slice = c.in_ok-plan.ensures.plan ∙ c.in_ok-rows.ensures in
    let is_new_one = c.in_ok-plan.ensures.is_new ∙ ap (is_new base) c.in_ok-rows.ensures in
    let more : map (slice_for db) (map (λ (row : Bor PcfRow). row.now) (take (i + 1) rows)) ≡ map (slice_for db) before ++ slice ∷ [] =
    ap (map (slice_for db)) (images-more (λ (row : Bor PcfRow). row.now) rows i c.row-item.result c.loop-row-test.true c.row-item.is)
    ∙ map-append (slice_for db) before (c.row-item.result.now ∷ []) in
    record {
      plans =
          ap (map arc_value) c.in_ok-push.ensures.items
          ∙ map-append arc_value c.loop-row.params.items (c.in_ok-plan.plan.param ∷ [])
          ∙ (λ j. c.loop-row.invariant.plans j ++ plan j ∷ [])
          ∙ sym more;
      compiled =
          c.in_ok-note.ensures
          ∙ (λ j. c.loop-row.invariant.compiled j ++ name_if (is_new_one j) (plan j).pcf.name)
          ∙ sym (names-more (is_new base) (map (slice_for db) before) slice)
          ∙ ap (λ (slices : List ParamSlice). plan_names (filter (is_new base) slices)) (sym more);
      steps =
          let count = count-more (is_new base) (map (slice_for db) before) slice in
          let all = ap (λ (slices : List ParamSlice). length (filter (is_new base) slices)) more in
          let one = ap (λ (s : ParamSlice). length (filter (is_new base) (s ∷ []))) c.in_ok-rows.ensures in
          omega (arith, c.in_ok-plan.ensures.steps, c.loop-row.invariant.steps, count, all, one);
    }
