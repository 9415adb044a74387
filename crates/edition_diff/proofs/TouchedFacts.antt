-- Which plans of each kind an edit touches.
use Rattle.std.proofs.Common.{◌≡◌, ℕ, pos, ◌+◌, nat_eq, Bool, true, false, cond, ◌&&◌, not, List, [], ◌∷◌, ◌++◌, length, map, filter, Option, Some, None, option_map, refl, sym, ap, ◌∙◌, arith}
use Rattle.std.proofs.lemmas.List.{length-append, length-map, map-append}
use Rattle.std.proofs.lemmas.List.Elements.{filter-append}
use Rattle.std.specs.List.{find, list_any}
use Rattle.edition_plans.specs.Layouts.{is_layout_row, layout_of, layout_slice}
use Rattle.edition_plans.specs.Params.{param_slices}
use Rattle.numbered_plans.proofs.LayoutFacts as LayoutFacts
use Rattle.numbered_plans.specs.Layouts as Layouts
use Rattle.numbered_plans.specs.Numbered as Same
use Rattle.mib_model.specs.declared.database.Database.{Database}
use Rattle.mib_model.specs.declared.plan.Plan.{Plan}
use Rattle.mib_model.specs.declared.plan.PlanName.{PlanName}
use Rattle.mib_model.specs.declared.plan.PlanName.TheVariants as plan
use Rattle.mib_model.specs.declared.rows.PidRow.{PidRow}
use Rattle.mib_model.specs.Database.{no_rows}
use Rattle.mib_model.specs.Fixed.{has_layout}
use Rattle.mib_model.specs.Orders.{sorted_by, sorted_by_number}
use Rattle.mib_model.specs.Soundness.{IsSound}
use Rattle.mib_model.specs.Plans.{distinct, has_plan, ident_plan, layout_plan, layout_plans, may_precede, param_plan, param_plans, plans, structure_plan, structure_plans}
use Rattle.mib_model.specs.Touched.{has_same_slice, is_touched, same_slice, touched}
use Rattle.param_set.proofs.PlanFacts.{new-plans-touched}
use Rattle.param_set.specs.Sharing.{new_names}
use Rattle.numbered_plans.proofs.StructureFacts as StructureFacts
use Rattle.numbered_plans.proofs.StructureFacts.{held-same}
use Rattle.numbered_plans.specs.Laws.{found-all}
use Rattle.numbered_plans.specs.Structures as Structures
use Rattle.edition_diff.proofs.OrderFacts.{filter-agree, filter-all, filter-filter, filter-map, filter-sorted, map-map, numbers-sorted}
use Rattle.edition_diff.specs.Diffs.{has_ident, ident_if, keyed_plans, touched_among}
use Rattle.edition_diff.proofs.NamedPlans.{named-ident, named-layout, named-structure}

module _ (old new : Database) where
  abbrev is_new : Plan → Bool
  is_new = is_touched (plans old)

  layout-same : (row : PidRow) (o : Option PidRow) → has_same_slice (layout_plan new row) (option_map (layout_plan old) o) ≡ Same.has_same Layouts.same_layout (option_map (layout_slice old) o) (layout_slice new row)
  layout-same row None = refl
  layout-same row (Some before) = refl

  layout-touched : (row : PidRow) → (has_layout row && is_new (layout_plan new row)) ≡ LayoutFacts.is_new old new row
  unfolding layout_of
  layout-touched row =
      ap (λ b. has_layout row && not b) (ap (has_same_slice (layout_plan new row)) (named-layout old row.spid) ∙ layout-same row (find (is_layout_row row.spid) old.pid))

  -- the layouts that are touched are those that are new, in the same order
  pub layouts-touched : IsSound new → touched_among old (layout_plans new) ≡ map plan.Layout (Layouts.new_layouts old new)
  unfolding layout_plans
  layouts-touched sound =
      let laid : List PidRow = filter has_layout new.pid in
      let touched_row : PidRow → Bool = λ row. is_new (layout_plan new row) in
      let ordered : List PidRow = sorted_by_number (λ row. row.spid) laid in
      let chosen : filter touched_row laid ≡ filter (LayoutFacts.is_new old new) new.pid = filter-filter has_layout touched_row new.pid ∙ filter-agree _ (LayoutFacts.is_new old new) layout-touched new.pid in
      ap (map (λ (p : Plan). p.name)) (filter-map is_new (layout_plan new) ordered)
      ∙ map-map (λ (p : Plan). p.name) (layout_plan new) (filter touched_row ordered)
      ∙ ap (map (λ (row : PidRow). plan.Layout row.spid)) (filter-sorted (λ (row : PidRow). row.spid) touched_row laid ∙ ap (sorted_by_number (λ (row : PidRow). row.spid)) chosen)
      ∙ sym (map-map plan.Layout (λ (row : PidRow). row.spid) (sorted_by_number (λ row. row.spid) (filter (LayoutFacts.is_new old new) new.pid)))
      ∙ ap (map plan.Layout) (numbers-sorted (λ (row : PidRow). row.spid) (filter (LayoutFacts.is_new old new) new.pid) ∙ sym (LayoutFacts.new-is old new sound))

  structure-same : (tpsd : ℕ) (b : Bool) → has_same_slice (structure_plan new tpsd) (option_map (structure_plan old) (cond b (Some tpsd) None))
      ≡ Same.has_same Structures.same_structure (cond b (Some (Structures.structure_slice old (pos tpsd))) None) (Structures.structure_slice new (pos tpsd))
  structure-same tpsd true = refl
  structure-same tpsd false = refl

  structure-touched : (tpsd : ℕ) → is_new (structure_plan new tpsd) ≡ StructureFacts.is_new old new (pos tpsd)
  structure-touched tpsd =
      let tpsds : List ℕ = map (λ row. row.tpsd) old.vpd in
      ap not
      (ap (has_same_slice (structure_plan new tpsd)) (named-structure old tpsd) ∙ structure-same tpsd (list_any (λ n. nat_eq n tpsd) tpsds)
      ∙ ap (λ b. Same.has_same Structures.same_structure (cond b (Some (Structures.structure_slice old (pos tpsd))) None) (Structures.structure_slice new (pos tpsd))) (sym (held-same old.vpd tpsd))
      ∙ ap (λ found. Same.has_same Structures.same_structure found (Structures.structure_slice new (pos tpsd))) (found-all old (pos tpsd)))

  -- the structures that are touched are those that are new, in the same order
  pub structures-touched : touched_among old (structure_plans new) ≡ map plan.Structure (Structures.new_structures old new)
  unfolding structure_plans
  structures-touched =
      let tpsds : List ℕ = distinct (map (λ row. row.tpsd) new.vpd) in
      let touched_tpsd : ℕ → Bool = λ n. is_new (structure_plan new n) in
      ap (map (λ (p : Plan). p.name)) (filter-map is_new (structure_plan new) (sorted_by_number (λ n. n) tpsds))
      ∙ map-map (λ (p : Plan). p.name) (structure_plan new) (filter touched_tpsd (sorted_by_number (λ n. n) tpsds))
      ∙ ap (map plan.Structure)
      (filter-sorted (λ (n : ℕ). n) touched_tpsd tpsds ∙ ap (sorted_by_number (λ (n : ℕ). n)) (filter-agree touched_tpsd (λ n. StructureFacts.is_new old new (pos n)) structure-touched tpsds)
      ∙ sym (StructureFacts.new-is old new))

  -- the plans of parameters that are touched are those that are new, in the same order
  pub params-touched : touched_among old (param_plans new) ≡ map plan.Param (new_names (param_slices old) (param_slices new))
  params-touched = sym (new-plans-touched old new)

  among-both : (xs ys : List Plan) → touched_among old (xs ++ ys) ≡ touched_among old xs ++ touched_among old ys
  among-both xs ys = ap (map (λ (p : Plan). p.name)) (filter-append is_new xs ys) ∙ map-append (λ (p : Plan). p.name) (filter is_new xs) (filter is_new ys)

  -- the plans that are found by a key and touched are those that are new, kind by kind
  pub keyed-touched : IsSound new → touched_among old (keyed_plans new)
      ≡ map plan.Param (new_names (param_slices old) (param_slices new)) ++ map plan.Layout (Layouts.new_layouts old new) ++ map plan.Structure (Structures.new_structures old new)
  keyed-touched sound =
      among-both (param_plans new ++ layout_plans new) (structure_plans new)
      ∙ ap (λ (names : List PlanName). names ++ touched_among old (structure_plans new)) (among-both (param_plans new) (layout_plans new))
      ∙ (λ i. params-touched i ++ layouts-touched sound i ++ structures-touched i)

  -- identification is touched where its rows differ
  pub ident-touched : is_new (ident_plan new) ≡ not (same_slice (ident_plan old).slice (ident_plan new).slice)
  ident-touched = ap (λ o. not (has_same_slice (ident_plan new) o)) (named-ident old)

  -- all that is touched: what is found by a key, and the plan of identification where its rows differ
  pub touched-kinds : touched old new ≡ touched_among old (keyed_plans new) ++ ident_if (not (has_ident old new))
  unfolding touched plans
  touched-kinds =
      among-both (keyed_plans new) (ident_plan new ∷ [])
      ∙ ap (λ b. touched_among old (keyed_plans new) ++ map (λ (p : Plan). p.name) (cond b (ident_plan new ∷ []) [])) ident-touched
      ∙ ap (λ (names : List PlanName). touched_among old (keyed_plans new) ++ names) (one-way (not (has_ident old new))) where
        one-way : (b : Bool) → map (λ (p : Plan). p.name) (cond b (ident_plan new ∷ []) []) ≡ ident_if b
        one-way true = refl
        one-way false = refl

-- beside a database without rows all plans of parameters, layouts and structures are new
module _ (db : Database) where
  abbrev is_first : Plan → Bool
  is_first = is_touched (plans no_rows)

  all-new : {A : Type 0} (f : A → Plan) → ((x : A) → is_first (f x) ≡ true) → (xs : List A) → filter is_first (map f xs) ≡ map f xs
  all-new f all xs = filter-map is_first f xs ∙ ap (map f) (filter-all (λ x. is_first (f x)) all xs)

  params-new : filter is_first (param_plans db) ≡ param_plans db
  unfolding plans param_plans layout_plans structure_plans sorted_by
  params-new = all-new (param_plan db) (λ row. refl) (sorted_by (λ x y. may_precede x.name y.name) (filter has_plan db.pcf))

  layouts-new : filter is_first (layout_plans db) ≡ layout_plans db
  unfolding plans param_plans layout_plans structure_plans sorted_by
  layouts-new = all-new (layout_plan db) (λ row. refl) (sorted_by_number (λ row. row.spid) (filter has_layout db.pid))

  structures-new : filter is_first (structure_plans db) ≡ structure_plans db
  unfolding plans param_plans layout_plans structure_plans sorted_by
  structures-new = all-new (structure_plan db) (λ n. refl) (sorted_by_number (λ n. n) (distinct (map (λ row. row.tpsd) db.vpd)))

  -- all plans: those that are found by a key, and that of identification
  pub plans-length : length (plans db) ≡ length (touched_among no_rows (keyed_plans db)) + 1
  unfolding plans
  plans-length =
      let keyed : List Plan = keyed_plans db in
      let chosen : filter is_first keyed ≡ keyed =
      filter-append is_first (param_plans db ++ layout_plans db) (structure_plans db)
      ∙ ap (λ (ps : List Plan). ps ++ filter is_first (structure_plans db)) (filter-append is_first (param_plans db) (layout_plans db))
      ∙ (λ i. params-new i ++ layouts-new i ++ structures-new i) in
      let names : length (touched_among no_rows keyed) ≡ length keyed = length-map (filter is_first keyed) (λ (p : Plan). p.name) ∙ ap length chosen in
      omega (arith, names, length-append keyed (ident_plan db ∷ []))
