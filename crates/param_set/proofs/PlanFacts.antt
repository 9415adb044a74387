-- The plans of all parameters, as boards and edits see them.
use Rattle.std.proofs.Common.{◌≡◌, ◌∙◌, ℕ, ◌≤◌, Bool, true, false, not, cond, List, [], ◌∷◌, ◌++◌, Option, Some, None, length, map, filter, find, option_map, option_and_then, refl, sym, ap, arith}
use Rattle.std.proofs.lemmas.List.Folds.{find-append}
use Rattle.std.specs.Option.{option_or}
use Rattle.std.specs.Str.{bytes_eq}
use Rattle.edition_plans.specs.Params.{param_slices}
use Rattle.param_state.specs.ParamPlans.{planned}
use Rattle.mib_model.specs.declared.database.Database.{Database}
use Rattle.mib_model.specs.declared.plan.Plan.{Plan}
use Rattle.mib_model.specs.declared.plan.PlanName.TheVariants as plan
use Rattle.mib_model.specs.declared.rows.PcfRow.{PcfRow}
use Rattle.mib_model.specs.Fixed.{has_layout}
use Rattle.mib_model.specs.Orders.{sorted_by_number}
use Rattle.mib_model.specs.Plans.{distinct, has_plan, ident_plan, layout_plan, layout_plans, param_plan, param_plans, plans, structure_plan, structure_plans}
use Rattle.mib_model.specs.Points.{first_of}
use Rattle.mib_model.specs.Touched.{has_same_slice, is_touched, plan_named, same_plan_name}
use Rattle.param_plan.proofs.PlanFacts.{find-map}
use Rattle.param_plan.specs.Slices.{ParamSlice, slice_for}
use Rattle.param_set.specs.Laws.{NewPlansAreTouched, SlicesAreOfTheDatabase, SlicesHavePlannedNames}
use Rattle.param_set.specs.Sharing.{is_as_before, is_new}
use Rattle.param_set.proofs.UniqueFacts.{named, named-planned, planned_rows, sound-once}

-- ---- the plan of a name

-- what is found is the first that passes
pub find-first : {X : Type 0} (p : X → Bool) (xs : List X) → find p xs ≡ first_of (filter p xs)
find-first p [] = refl
find-first p (x ∷ xs) = go (p x) (find-first p xs) where
  go : (b : Bool) → find p xs ≡ first_of (filter p xs) → cond b (Some x) (find p xs) ≡ first_of (cond b (x ∷ filter p xs) (filter p xs))
  go true others = refl
  go false others = others

-- of one row at most
first-planned : (db : Database) (rows : List PcfRow) → length rows ≤ 1 → option_map (slice_for db) (first_of (filter has_plan rows)) ≡ option_and_then (planned db) (first_of rows)
first-planned db [] few = refl
first-planned db (x ∷ []) few = go (has_plan x) where
  go : (b : Bool) → option_map (slice_for db) (first_of (cond b (x ∷ []) [])) ≡ cond b (Some (slice_for db x)) None
  go true = refl
  go false = refl
first-planned db (x ∷ y ∷ ys) few = absurd (omega (arith, few))

pub slices-of-database : SlicesAreOfTheDatabase
unfolding param_slices
slices-of-database db sound name =
    find-map (slice_for db) (λ slice. bytes_eq slice.pcf.name name) (planned_rows db) ∙
    (ap (option_map (slice_for db)) (find-first (named name) (planned_rows db) ∙ ap first_of (named-planned db name)) ∙
    (first-planned db (filter (named name) db.pcf) (sound-once db sound name) ∙ ap (option_and_then (planned db)) (sym (find-first (named name) db.pcf))))

names-of : (db : Database) (rows : List PcfRow) → map (λ slice. slice.pcf.name) (map (slice_for db) rows) ≡ map (λ row. row.name) rows
names-of db [] = refl
names-of db (row ∷ rows) = ap (λ names. row.name ∷ names) (names-of db rows)

pub slices-planned_names : SlicesHavePlannedNames
unfolding param_slices
slices-planned_names db = names-of db (planned_rows db)

-- ---- the plans that are new

-- what is made of two kinds of images that pass
passed-images : {X Y Z N : Type 0} (f : X → Y) (g : X → Z) (p : Y → Bool) (q : Z → Bool) (n : Y → N) (m : Z → N) → ((x : X) → p (f x) ≡ q (g x)) → ((x : X) → n (f x) ≡ m (g x)) → (xs : List X)
    → map n (filter p (map f xs)) ≡ map m (filter q (map g xs))
passed-images f g p q n m same names [] = refl
passed-images f g p q n m same names (x ∷ xs) = go (p (f x)) (q (g x)) (same x) (passed-images f g p q n m same names xs) where
  go : (b c : Bool) → b ≡ c → map n (filter p (map f xs)) ≡ map m (filter q (map g xs)) → map n (cond b (f x ∷ filter p (map f xs)) (filter p (map f xs))) ≡ map m (cond c (g x ∷ filter q (map g xs)) (filter q (map g xs)))
  go true true e others = let first = names x in (λ i. first i ∷ others i)
  go true false e others = absurd (cc e)
  go false true e others = absurd (cc e)
  go false false e others = others

-- nothing is found among images of which none passes
find-images-none : {X Y : Type 0} (f : X → Y) (p : Y → Bool) → ((x : X) → p (f x) ≡ false) → (xs : List X) → find p (map f xs) ≡ None
find-images-none f p none [] = refl
find-images-none f p none (x ∷ xs) = rw (none x) (find-images-none f p none xs)

or-nothing : {A : Type 0} (o : Option A) → option_or o None ≡ o
or-nothing None = refl
or-nothing (Some x) = refl

-- the plan of a parameter's name is among those of parameters
param-named : (db : Database) (name : List ℕ) → plan_named (plans db) (plan.Param name) ≡ plan_named (param_plans db) (plan.Param name)
unfolding plans layout_plans structure_plans
param-named db name =
    let p : Plan → Bool = λ q. same_plan_name q.name (plan.Param name) in
    let layouts : find p (layout_plans db) ≡ None = find-images-none (layout_plan db) p (λ x. refl) (sorted_by_number (λ row. row.spid) (filter has_layout db.pid)) in
    let structures : find p (structure_plans db) ≡ None = find-images-none (structure_plan db) p (λ x. refl) (sorted_by_number (λ n. n) (distinct (map (λ row. row.tpsd) db.vpd))) in
    find-append p (param_plans db ++ layout_plans db ++ structure_plans db) (ident_plan db ∷ []) ∙
    (or-nothing (find p (param_plans db ++ layout_plans db ++ structure_plans db)) ∙
    (find-append p (param_plans db ++ layout_plans db) (structure_plans db) ∙
    (ap (option_or (find p (param_plans db ++ layout_plans db))) structures ∙
    (or-nothing (find p (param_plans db ++ layout_plans db)) ∙
    (find-append p (param_plans db) (layout_plans db) ∙
    (ap (option_or (find p (param_plans db))) layouts ∙ or-nothing (find p (param_plans db))))))))

before-same : (old new : Database) (row : PcfRow) (o : Option PcfRow) → is_as_before (slice_for new row) (option_map (slice_for old) o) ≡ has_same_slice (param_plan new row) (option_map (param_plan old) o)
before-same old new row None = refl
before-same old new row (Some before) = refl

-- a plan of a parameter is new where it is touched
new-touched : (old new : Database) (row : PcfRow) → is_new (param_slices old) (slice_for new row) ≡ is_touched (plans old) (param_plan new row)
unfolding is_new param_slices param_plans
new-touched old new row =
    ap (λ o. not (is_as_before (slice_for new row) o)) (find-map (slice_for old) (λ slice. bytes_eq slice.pcf.name row.name) (planned_rows old)) ∙
    (ap not (before-same old new row (find (named row.name) (planned_rows old))) ∙
    (ap (λ o. not (has_same_slice (param_plan new row) o)) (sym (find-map (param_plan old) (λ q. same_plan_name q.name (plan.Param row.name)) (planned_rows old))) ∙
    ap (λ o. not (has_same_slice (param_plan new row) o)) (sym (param-named old row.name))))

fused : {X Y Z : Type 0} (f : Y → Z) (g : X → Y) (xs : List X) → map f (map g xs) ≡ map (λ x. f (g x)) xs
fused f g [] = refl
fused f g (x ∷ xs) = let others = fused f g xs in ap (λ zs. f (g x) ∷ zs) others

pub new-plans-touched : NewPlansAreTouched
unfolding param_slices param_plans
new-plans-touched old new =
    fused plan.Param (λ (slice : ParamSlice). slice.pcf.name) (filter (is_new (param_slices old)) (param_slices new))
    ∙ passed-images (slice_for new) (param_plan new) (is_new (param_slices old)) (is_touched (plans old)) (λ slice. plan.Param slice.pcf.name) (λ p. p.name) (new-touched old new) (λ row. refl) (planned_rows new)
