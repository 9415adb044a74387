-- What is kept where the edition changes, by the slices of plans.
use Rattle.std.proofs.Common.{◌≡◌, ◌∙◌, ℕ, suc, ◌+◌, ◌<◌, ◌≤◌, Bool, true, false, cond, ◌&&◌, not, List, [], ◌∷◌, map, Option, Some, None, Less, option_and_then, length, get_or, find, refl, sym, ap, subst, arith, inl, inr}
use Rattle.std.proofs.lemmas.Bool.{cases_Bool, cases_lt, false≢true}
use Rattle.std.proofs.lemmas.Bool.Decides.{Decides-eqb}
use Rattle.std.proofs.lemmas.List.{get_or_default, get_or-map, length-map}
use Rattle.std.proofs.lemmas.List.Quantifiers.{position-Some}
use Rattle.std.proofs.lemmas.Slice.Eq.{bytes_eq-Decides}
use Rattle.std.specs.Prelude.{◌==◌}
use Rattle.std.specs.Cmp.Lexicographic.{pointwise, slice_cmp}
use Rattle.std.specs.List.{AllAdjacentBelow, position}
use Rattle.std.specs.Ordering.{nat_cmp}
use Rattle.std.specs.Option.{option_eq}
use Rattle.std.specs.Str.{bytes_eq}
use Rattle.mib_model.specs.declared.database.Database.{Database}
use Rattle.mib_model.specs.declared.rows.PcfRow.{PcfRow}
use Rattle.mib_model.specs.Carry.{check_of, is_carried, carry, run_for, same_check, stays}
use Rattle.mib_model.specs.Checks.{checks_of}
use Rattle.mib_model.specs.Letters.{letter}
use Rattle.mib_model.specs.Kept.{Kept, Memory, keeping, nothing_kept}
use Rattle.mib_model.specs.Parameters.{parameter}
use Rattle.mib_model.specs.Plans.{has_plan}
use Rattle.mib_model.specs.Sameness.{same_cells}
use Rattle.mib_model.specs.SameRows.{same_pcf, same_ocp}
use Rattle.param_plan.specs.Slices.{ParamSlice, slice_for}
use Rattle.fold_state.specs.Boards.{Slots, memory_of, place_of}
use Rattle.param_state.specs.ParamPlans.{is_name_of, plan_names, IsParamsOf, IsSliceOf, planned}
use Rattle.fold_state.proofs.BoardFacts.{kept-missing, nowhere, place-risen, place-within, rise-map}
use Rattle.param_state.proofs.NamedFacts.{same-name}
use Rattle.param_state.proofs.ValueFacts.{found-passes, slice-found}
use Rattle.fold_state.proofs.FinishFacts.{plan-found, plan-within}
use Rattle.param_state.proofs.CarriedFacts.{carry-nothing, carry-other}

and-left : (a b : Bool) → (a && b) ≡ true → a ≡ true
and-left true b both = refl
and-left false b both = both

and-right : (a b : Bool) → (a && b) ≡ true → b ≡ true
and-right true b both = both
and-right false b both = absurd (false≢true both)

-- equal rows have plans alike
same-plan : (x y : PcfRow) → same_pcf x y ≡ true → has_plan x ≡ has_plan y
unfolding same_cells
same-plan x y same =
    let from_pid = and-right _ _ same in
    let from_ptc = and-right _ _ from_pid in
    let ptc : x.ptc ≡ y.ptc = (Decides-eqb x.ptc y.ptc).0 (and-left _ _ from_ptc) in
    let from_pfc = and-right (x.ptc == y.ptc) _ from_ptc in
    let from_width = and-right (x.pfc == y.pfc) _ from_pfc in
    let from_valid = and-right (x.width == y.width) _ from_width in
    let from_categ = and-right (option_eq bytes_eq x.valid y.valid) _ from_valid in
    let from_natur = and-right (x.categ == y.categ) _ from_categ in
    let natur : x.natur ≡ y.natur = (Decides-eqb x.natur y.natur).0 (and-left (x.natur == y.natur) _ from_natur) in
    ap (λ (n : ℕ). (n == letter "R") && not (x.ptc == 11)) natur ∙ ap (λ (p : ℕ). (y.natur == letter "R") && not (p == 11)) ptc

-- a name without a plan under the new edition: nothing of it is carried
pub carry-unplanned : (memory : Memory) (before after : Database) (name : List ℕ) (s : ParamSlice) → IsSliceOf before name s → has_plan s.pcf ≡ true → option_and_then (planned after) (parameter after.pcf name) ≡ None
    → carry memory before after name ≡ nothing_kept
unfolding is_carried
carry-unplanned memory before after name s is plan none = carry-other memory before after name (fails (parameter after.pcf name) refl none) where
  whole : Bool → Bool
  whole b = b && same_check (check_of before name) (check_of after name) && pointwise same_ocp (checks_of before name) (checks_of after name)

  differs : (row : PcfRow) → (b : Bool) → has_plan row ≡ b → cond b (Some (slice_for after row)) None ≡ None → same_pcf s.pcf row ≡ false
  differs row true has same = absurd (cc)
  differs row false has same = elim (cases_Bool (same_pcf s.pcf row)) [
    | inl equal ↦ absurd (false≢true (sym has ∙ (sym (same-plan s.pcf row equal) ∙ plan)))
    | inr apart ↦ apart
  ]

  fails : (p : Option PcfRow) → parameter after.pcf name ≡ p → option_and_then (planned after) p ≡ None → is_carried before after name ≡ false
  fails None here none = ap (λ (o : Option PcfRow). whole (stays o (parameter after.pcf name))) is.row ∙ ap (λ (o : Option PcfRow). whole (stays (Some s.pcf) o)) here
  fails (Some row) here none = ap (λ (o : Option PcfRow). whole (stays o (parameter after.pcf name))) is.row ∙ (ap (λ (o : Option PcfRow). whole (stays (Some s.pcf) o)) here ∙
      ap whole (differs row (has_plan row) refl none))

-- the slice of a name that is planned has a plan
pub has-plan : (db : Database) (params : List ParamSlice) (name : List ℕ) (s : ParamSlice) → IsParamsOf db params → find (λ slice. bytes_eq slice.pcf.name name) params ≡ Some s → has_plan s.pcf ≡ true
has-plan db params name s plans found = go (parameter db.pcf name) (sym (plans name) ∙ found) where
  by : (row : PcfRow) (b : Bool) → has_plan row ≡ b → cond b (Some (slice_for db row)) None ≡ Some s → has_plan s.pcf ≡ true
  by row true has same = (let is : slice_for db row ≡ s = cc in subst (λ (t : ParamSlice). has_plan t.pcf ≡ true) is has)
  by row false has same = absurd (cc)

  go : (p : Option PcfRow) → option_and_then (planned db) p ≡ Some s → has_plan s.pcf ≡ true
  go None same = absurd (cc)
  go (Some row) same = by row (has_plan row) refl same

-- a name that isn't among those of plans has none
pub plan-nowhere : (params : List ParamSlice) (name : List ℕ) → position (is_name_of name) (plan_names params) ≡ None → find (λ slice. bytes_eq slice.pcf.name name) params ≡ None
plan-nowhere params name none = find-nowhere (λ slice. bytes_eq slice.pcf.name name) params (λ k d below.
    let key : ParamSlice → List ℕ = λ slice. slice.pcf.name in
    let long : length (map key params) ≡ length params = simp length-map in
    ap (λ (x : List ℕ). bytes_eq x name) (sym (get_or-map key params k d [] below)) ∙ nowhere (is_name_of name) (plan_names params) none k (omega (arith, long, below))) where
      find-nowhere : (p : ParamSlice → Bool) (xs : List ParamSlice) → ((k : ℕ) (d : ParamSlice) → k < length xs → p (get_or xs k d) ≡ false) → find p xs ≡ None
      find-nowhere p [] fails = refl
      find-nowhere p (x ∷ xs) fails = rw (fails 0 x (omega arith)) (find-nowhere p xs (λ k d below. fails (suc k) d (omega (arith, below))))

-- a parameter's slice has its name
pub slice-name : (db : Database) (name : List ℕ) (s : ParamSlice) → IsSliceOf db name s → s.pcf.name ≡ name
slice-name db name s is = same-name s.pcf.name name (found-passes (λ row. bytes_eq row.name name) db.pcf s.pcf is.row)

-- what is kept of the names below a place is what is carried
abbrev pub CarriedBelow : ℕ → Slots → Slots → Database → Database → Type 0
CarriedBelow n board old before after = (name : List ℕ) (i : ℕ) → place_of board name ≡ Some i → i < n → memory_of board name ≡ carry (memory_of old) before after name

-- and one more
pub carried-more : (board next old : Slots) (before after : Database) (n : ℕ) (own : List ℕ) → next.names ≡ board.names → place_of board own ≡ Some n
    → memory_of next ≡ keeping (memory_of board) own (carry (memory_of old) before after own) → CarriedBelow n board old before after → CarriedBelow (n + 1) next old before after
carried-more board next old before after n own same at kept below name i here within = elim (cases_Bool (bytes_eq name own)) [
  | inl equal ↦ ap (λ (m : Memory). m name) kept ∙ rw equal (ap (carry (memory_of old) before after) (sym (same-name name own equal)))
  | inr apart ↦ ap (λ (m : Memory). m name) kept ∙ rw apart (below name i here' (before-it apart))
] where
  here' : place_of board name ≡ Some i
  here' = subst (λ (names : List (List ℕ)). position (is_name_of name) names ≡ Some i) same here

  before-it : bytes_eq name own ≡ false → i < n
  before-it apart = elim (cases_lt i n) [
    | inl less ↦ less
    | inr more ↦
        let is : i ≡ n = omega (arith, more, within) in
        let one = same-name (get_or board.names i []) name (position-Some (is_name_of name) board.names i [] here').1 in
        let two = same-name (get_or board.names n []) own (position-Some (is_name_of own) board.names n [] at).1 in
        let equal : name ≡ own = sym one ∙ (ap (λ (k : ℕ). get_or board.names k []) is ∙ two) in
        absurd (false≢true (sym apart ∙ (bytes_eq-Decides name own).1 equal))
  ]

-- what is kept of the names from a place on is what was kept
abbrev pub KeptFrom : ℕ → Slots → Slots → Type 0
KeptFrom n board old = (name : List ℕ) (i : ℕ) → place_of board name ≡ Some i → n ≤ i → memory_of board name ≡ memory_of old name

-- and of those behind the one at it
pub kept-more : (board next old : Slots) (n : ℕ) (own : List ℕ) (kept : Kept) → next.names ≡ board.names → place_of board own ≡ Some n
    → memory_of next ≡ keeping (memory_of board) own kept → KeptFrom n board old → KeptFrom (n + 1) next old
kept-more board next old n own kept same at made from name i here behind = elim (cases_Bool (bytes_eq name own)) [
  | inl equal ↦ absurd (
      let one : place_of board own ≡ Some i = subst (λ (x : List ℕ). place_of board x ≡ Some i) (same-name name own equal) here' in
      let both : ◌≡◌ {A = Option ℕ} (Some n) (Some i) = sym at ∙ one in
      let is : n ≡ i = cc in
      omega (arith, is, behind))
  | inr apart ↦ ap (λ (m : Memory). m name) made ∙ rw apart (from name i here' (omega (arith, behind)))
] where
  here' : place_of board name ≡ Some i
  here' = subst (λ (names : List (List ℕ)). position (is_name_of name) names ≡ Some i) same here

-- what is carried of a name is told by what was kept of it
pub carry-alike : (m n : Memory) (before after : Database) (name : List ℕ) → m name ≡ n name → carry m before after name ≡ carry n before after name
unfolding carry
carry-alike m n before after name same = ap (λ (k : Kept). cond (is_carried before after name) (record k { run = run_for (check_of after name) k.run }) nothing_kept) same

plan-at : (params : List ParamSlice) (i : ℕ) → i < length params → (s : ParamSlice) × (s ≡ get_or params i s)
plan-at [] i below = absurd (omega (arith, below))
plan-at (x ∷ params) i below = (get_or (x ∷ params) i x, get_or_default (x ∷ params) i x (get_or (x ∷ params) i x) below)

-- of a name that has no plan under the new edition nothing is carried
pub carry-missing : (from to : List ParamSlice) (old : Slots) (before after : Database) (name : List ℕ) → IsParamsOf before from → IsParamsOf after to → old.names ≡ plan_names from
    → position (is_name_of name) (plan_names to) ≡ None → carry (memory_of old) before after name ≡ nothing_kept
carry-missing from to old before after name one two made none = go (place_of old name) refl where
  planless : option_and_then (planned after) (parameter after.pcf name) ≡ None
  planless = sym (two name) ∙ plan-nowhere to name none

  go : (p : Option ℕ) → place_of old name ≡ p → carry (memory_of old) before after name ≡ nothing_kept
  go None at = carry-nothing (memory_of old) before after name (kept-missing old name at)
  go (Some j) at =
      let plan = plan-at from j (plan-within from old name j made at) in
      let found = plan-found from old name j plan.0 made at plan.1 in
      carry-unplanned (memory_of old) before after name plan.0 (slice-found before from name plan.0 one found) (has-plan before from name plan.0 one found) planless

-- what is kept of all names is what is carried
pub carried-all : (from to : List ParamSlice) (board old : Slots) (before after : Database) (n : ℕ) → IsParamsOf before from → IsParamsOf after to → old.names ≡ plan_names from → board.names ≡ plan_names to
    → length board.names ≤ n → CarriedBelow n board old before after → memory_of board ≡ carry (memory_of old) before after
carried-all from to board old before after n one two old_made made long below = λ j name. each name (place_of board name) refl j where
  each : (name : List ℕ) → (p : Option ℕ) → place_of board name ≡ p → memory_of board name ≡ carry (memory_of old) before after name
  each name None at = kept-missing board name at ∙ sym (carry-missing from to old before after name one two old_made (ap (λ (names : List (List ℕ)). position (is_name_of name) names) (sym made) ∙ at))
  each name (Some i) at = below name i at (omega (arith, long, place-within board name i at))

-- the place of a plan's name is the plan's
pub plan-placed : (params : List ParamSlice) (names : List (List ℕ)) (i : ℕ) (s : ParamSlice) → AllAdjacentBelow (λ x y. slice_cmp nat_cmp x.pcf.name y.pcf.name ≡ Less) params (length params)
    → names ≡ plan_names params → i < length params → s ≡ get_or params i s → position (is_name_of s.pcf.name) names ≡ Some i
plan-placed params names i s up made below is =
    let key : ParamSlice → List ℕ = λ slice. slice.pcf.name in
    let long : length (map key params) ≡ length params = simp length-map in
    ap (λ (ns : List (List ℕ)). position (is_name_of s.pcf.name) ns) made ∙
    place-risen (plan_names params) s.pcf.name i (rise-map params up) (omega (arith, long, below)) (get_or-map key params i s [] below ∙ ap key (sym is))
