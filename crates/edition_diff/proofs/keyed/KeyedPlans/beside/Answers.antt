use Rattle.std.proofs.Common.{◌≡◌, ◌∙◌, ◌+◌, ◌++◌, List, ap, arith, filter, length, map, sym}
use Rattle.std.proofs.lemmas.List.{length-append, length-map}
use Rattle.edition_diff.proofs.TouchedFacts.{keyed-touched}
use Rattle.edition_diff.specs.Diffs.{keyed_plans, touched_among}
use Rattle.edition_plans.specs.Params.{param_slices}
use Rattle.numbered_plans.specs.Layouts.{new_layouts}
use Rattle.mib_model.specs.declared.database.Database.{Database}
use Rattle.mib_model.specs.declared.plan.PlanName.{PlanName}
use Rattle.mib_model.specs.declared.plan.PlanName.TheVariants as plan
use Rattle.param_plan.specs.Slices.{ParamSlice}
use Rattle.param_set.proofs.CountFacts.{long-names}
use Rattle.param_set.specs.Sharing.{is_new, new_names}
use Rattle.numbered_plans.specs.Structures.{new_structures}
use Rattle.edition_diff.proofs.keyed.KeyedPlans.beside.Goals as goal

pub params_with-requires : goal.params_with-requires
params_with-requires g c = record {
  base = c.base.invariant.0 ∙ ap param_slices (c.base.view_is ∙ c.requires.base);
  sound = c.requires.sound;
  same = c.requires.same;
}

pub beside-requires-3 : goal.beside-requires-3
beside-requires-3 g c = record {
  base = c.base.invariant.2 ∙ ap (λ (db : Database). db.pcf) (c.base.view_is ∙ c.requires.base) ∙ sym c.pcf.ensures.rows;
  known = λ known. c.pcf.ensures.rows ∙ c.requires.same.pcf known ∙ sym c.pcf-2.ensures.rows;
}

pub returns : goal.returns
returns g c =
    let old : Database = c.args.base.now in
    let new : Database = c.args.book.now in
    let base : c.base.inside.layouts ≡ old = c.base.view_is in
    let slices : c.base.inside.params ≡ param_slices old = c.base.invariant.0 ∙ ap param_slices base in
    let params : c.in_ok-params.params.compiled.items ≡ new_names (param_slices old) (param_slices new) =
    c.in_ok-params.ensures.compiled ∙ ap (λ (s : List ParamSlice). new_names s (param_slices new)) slices in
    let layouts : c.in_ok-layouts.layouts.compiled.items ≡ new_layouts old new = c.in_ok-layouts.ensures.compiled ∙ ap (λ (db : Database). new_layouts db new) base in
    let structures : c.in_ok-structures.structures.compiled.items ≡ new_structures old new =
    c.in_ok-structures.ensures.compiled ∙ ap (λ (db : Database). new_structures db new) (c.base.invariant.1 ∙ base) in
    let kinds = keyed-touched old new c.requires.sound in
    let params_now : c.deref.result.now ≡ new_names (param_slices old) (param_slices new) = c.deref.ensures.value ∙ params in
    let layouts_now : c.deref-2.result.now ≡ new_layouts old new = c.deref-2.ensures.value ∙ layouts in
    let structures_now : c.deref-3.result.now ≡ new_structures old new = c.deref-3.ensures.value ∙ structures in
    let names : c.in_ok-touched.touched.items ≡ touched_among old (keyed_plans new) =
    c.in_ok-touched.ensures ∙ (λ i. map plan.Param (params_now i) ++ map plan.Layout (layouts_now i) ++ map plan.Structure (structures_now i)) ∙ sym kinds in
    let by_name : List PlanName = map plan.Param (new_names (param_slices old) (param_slices new)) in
    let by_spid : List PlanName = map plan.Layout (new_layouts old new) in
    let by_tpsd : List PlanName = map plan.Structure (new_structures old new) in
    let total : length (touched_among old (keyed_plans new)) ≡ length (new_names (param_slices old) (param_slices new)) + length (new_layouts old new) + length (new_structures old new) =
    omega (arith, ap length kinds, length-append (by_name ++ by_spid) by_tpsd, length-append by_name by_spid, length-map (new_names (param_slices old) (param_slices new)) plan.Param, length-map (new_layouts old new) plan.Layout, length-map (new_structures old new) plan.Structure) in
    record {
      keyed = c.in_ok-layouts.ensures.set;
      touched = names;
      few = omega (arith, ap length names, total, ap length params, ap length layouts, ap length structures, c.in_ok-params.ensures.few, c.in_ok-layouts.ensures.few, c.in_ok-structures.ensures.few);
      steps =
          let params_new = ap (λ (s : List ParamSlice). length (filter (is_new s) (param_slices new))) slices in
          let layouts_new = ap (λ (db : Database). length (new_layouts db new)) base in
          let structures_new = ap (λ (db : Database). length (new_structures db new)) (c.base.invariant.1 ∙ base) in
          omega (arith, total, c.in_ok-params.ensures.steps, c.in_ok-layouts.ensures.steps, c.in_ok-structures.ensures.steps, params_new, layouts_new, structures_new, long-names (filter (is_new (param_slices old)) (param_slices new)));
    }
