-- The place of the plan of a value: its seat, what is asked there, and the line where that is plain.
use Rattle.std.proofs.Common.{◌≡◌, ◌∙◌, ◌<◌, ◌≤◌, ◌||◌, ℕ, Bool, true, false, cond, List, [], Option, Some, None, IsSome, length, get_or, find, option_and_then, refl, sym, ap, subst, arith, All, append-nil}
use Rattle.std.proofs.lemmas.Bool.{false≢true}
use Rattle.std.proofs.lemmas.List.{get_or_default, length-map}
use Rattle.std.proofs.lemmas.List.Elements.{recursion_from_All}
use Rattle.std.proofs.lemmas.List.Folds.{list_any_at}
use Rattle.std.proofs.lemmas.List.Quantifiers.{position-Some}
use Rattle.std.proofs.lemmas.Slice.Eq.{bytes_eq-Decides}
use Rattle.std.specs.List.{list_any, position}
use Rattle.std.specs.Str.{bytes_eq}
use Rattle.memory_laws.specs.Alike.{Covers, CoversAll, asks, is_on, is_valid_on}
use Rattle.mib_model.specs.declared.database.Database.{Database}
use Rattle.mib_model.specs.declared.packet.Value.{Value}
use Rattle.mib_model.specs.declared.rows.PcfRow.{PcfRow}
use Rattle.mib_model.specs.Checks.{checks_of}
use Rattle.mib_model.specs.Curves.{selections}
use Rattle.mib_model.specs.Finish.{Finished}
use Rattle.mib_model.specs.Parameters.{parameter}
use Rattle.mib_model.specs.Plans.{has_plan}
use Rattle.mib_model.specs.Tails.{Plain}
use Rattle.mib_model.specs.Texts.{told_text, value_text}
use Rattle.param_plan.specs.Plain.{plain_at}
use Rattle.param_plan.specs.Slices.{ParamSlice, slice_for}
use Rattle.param_plan.proofs.PlanFacts.{position-map}
use Rattle.line_marks.specs.declared.mark.Mark.TheVariants as mark
use Rattle.fold_state.specs.Boards.{Slots}
use Rattle.param_state.specs.ParamPlans.{is_name_of, plan_names, IsParamsOf, planned}
use Rattle.param_state.specs.Demands.{asked_in, slice_asks}
use Rattle.line_marks.specs.Marks.{IsShown}
use Rattle.param_state.proofs.NamedFacts.{same-name}
use Rattle.fold_state.proofs.FinishFacts.{finish-plain-at, plan-found, plan-within}
use Rattle.param_state.proofs.ValueFacts.{found-passes, some-item}
use Rattle.line_sheets.specs.Drawings.{HasPlan}

-- a seat is the place of a name
pub record IsSeatOf (names : List (List ℕ)) (name : List ℕ) (seat : ℕ) : Type 0 where
  pub placed : position (is_name_of name) names ≡ Some seat
  pub named : get_or names seat [] ≡ name
  pub below : seat < length names

module _ (params : List ParamSlice) (name : List ℕ) where
  abbrev place_here : Option ℕ
  place_here = position (λ slice. bytes_eq slice.pcf.name name) params

  -- the place of a plan is that of its name
  same-place : (at : ℕ) → place_here ≡ Some at → position (is_name_of name) (plan_names params) ≡ Some at
  same-place at is = position-map (λ (s : ParamSlice). s.pcf.name) (is_name_of name) params ∙ is

  -- it is the seat of the name
  seat-placed : (at : ℕ) → place_here ≡ Some at → IsSeatOf (plan_names params) name at
  seat-placed at is =
      let found = position-Some (is_name_of name) (plan_names params) at [] (same-place at is) in
      record { placed = same-place at is; named = (bytes_eq-Decides (get_or (plan_names params) at []) name).0 found.1; below = found.0 }

  -- the seat of a name that has a plan, by the place that was found
  pub seat-there : (place : Option ℕ) (seat most : ℕ) → HasPlan params name → place ≡ place_here → length params ≤ most → ((at : ℕ) → place ≡ Some at → at ≤ most → seat ≡ at)
      → IsSeatOf (plan_names params) name seat
  seat-there place seat most has is few each = go place refl where
    long : length (plan_names params) ≡ length params
    long = simp length-map

    go : (p : Option ℕ) → place ≡ p → IsSeatOf (plan_names params) name seat
    go None none = absurd (cc (subst (λ (p : Option ℕ). IsSome p) (sym is ∙ none) has))
    go (Some at) found =
        let there = seat-placed at (sym is ∙ found) in
        let same = each at found (omega (arith, there.below, long, few)) in
        subst (λ (n : ℕ). IsSeatOf (plan_names params) name n) (sym same) there

  -- a board with the names of plans, and no slots
  abbrev bare : Slots
  bare = record { names = plan_names params; slots = [] }

  -- what the values of a parameter ask is what a plan asks that is the slice of its row
  asks-row : (db : Database) (row : PcfRow) → parameter db.pcf name ≡ Some row → (other : List ℕ) → asks db name other ≡ slice_asks other (slice_for db row)
  asks-row db row here other =
      let named : row.name ≡ name = same-name row.name name (found-passes (λ (r : PcfRow). bytes_eq r.name name) db.pcf row here) in
      λ i.
      is_valid_on other (here i) ||
      list_any (λ r. bytes_eq r.rlchk other) (selections db (sym named i)) ||
      list_any (λ r. is_on other r.rlchk) (checks_of db (sym named i))

  -- and so is what the plan asks that is found
  asks-plan : (db : Database) (s : ParamSlice) → IsParamsOf db params → find (λ slice. bytes_eq slice.pcf.name name) params ≡ Some s → (other : List ℕ) → asks db name other ≡ slice_asks other s
  asks-plan db s plans found other = go (parameter db.pcf name) refl (sym (plans name) ∙ found) where
    by : (row : PcfRow) (b : Bool) → asks db name other ≡ slice_asks other (slice_for db row) → cond b (Some (slice_for db row)) None ≡ Some s → asks db name other ≡ slice_asks other s
    by row true same is = let e : slice_for db row ≡ s = cc in same ∙ ap (slice_asks other) e
    by row false same is = absurd (cc)

    go : (p : Option PcfRow) → parameter db.pcf name ≡ p → option_and_then (planned db) p ≡ Some s → asks db name other ≡ slice_asks other s
    go None here same = absurd (cc)
    go (Some row) here same = by row (has_plan row) (asks-row db row here other) same

  -- what plans ask covers a name that has one
  covers-planned : (asked : List ℕ → Bool) (db : Database) → IsParamsOf db params → ((other : List ℕ) → asked_in params other ≡ true → asked other ≡ true) → HasPlan params name → Covers asked db name
  covers-planned asked db plans all has = go place_here refl has where
    go : (p : Option ℕ) → place_here ≡ p → IsSome p → Covers asked db name
    go None at has = absurd (false≢true has)
    go (Some i) at has = λ other h.
        let here = same-place i at in
        let within = plan-within params bare name i refl here in
        let item = some-item params i within in
        let s = get_or params i item in
        let found = plan-found params bare name i s refl here (get_or_default params i item s within) in
        all other (list_any_at (slice_asks other) params i item within (sym (asks-plan db s plans found other) ∙ h))

-- what plans ask covers values that have some
pub covers-values : (asked : List ℕ → Bool) (db : Database) (params : List ParamSlice) (vs : List Value) → IsParamsOf db params → ((other : List ℕ) → asked_in params other ≡ true → asked other ≡ true)
    → All (λ v. HasPlan params v.name) vs → CoversAll asked db vs
covers-values asked db params vs plans all has =
    recursion_from_All (λ (v : Value). Covers asked db v.name) vs (λ k d below. covers-planned params (get_or vs k d).name asked db plans all (has k d below))

-- the line of a value whose plan has a place and is plain
pub shown-plain : (db : Database) (packet : List ℕ) (params : List ParamSlice) (v : Value) (at : ℕ) (line : List ℕ) → IsParamsOf db params → position (λ slice. bytes_eq slice.pcf.name v.name) params ≡ Some at
    → plain_at params at ≡ true → line ≡ value_text v packet Plain → IsShown db packet v (mark.Told, line)
shown-plain db packet params v at line plans here plain text = λ memory.
    let done = finish-plain-at db memory v params (bare params v.name) at plans refl (same-place params v.name at here) plain in
    ap (λ (t : List ℕ). (memory, t)) (text ∙ sym (append-nil (value_text v packet Plain))) ∙ ap (λ (d : Finished). (d.0, told_text packet d.1)) done
