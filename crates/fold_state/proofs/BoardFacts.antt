-- What is kept beside a name, by its place among the names.
use Rattle.std.proofs.Common.{◌≡◌, ◌∙◌, ℕ, zero, suc, ◌+◌, ◌<◌, inl, inr, Bool, true, false, cond, List, [], ◌∷◌, Option, Some, None, Less, Equal, Ordering, length, get_or, map, find, zip, refl, sym, ap, subst, arith, ltb}
use Rattle.std.proofs.Math.ListN.{set}
use Rattle.std.proofs.lemmas.Bool.{cases_Bool, cases_lt, false≢true}
use Rattle.std.proofs.lemmas.Bool.Decides.{nat_tests}
use Rattle.std.proofs.lemmas.List.{get_or-map, get_or-set_same, length-set, length-map}
use Rattle.std.proofs.lemmas.List.Quantifiers.{position-Some}
use Rattle.std.proofs.lemmas.List.Sums.{position_or_len_is, fails_before_first}
use Rattle.std.proofs.lemmas.Slice.Eq.{bytes_eq-Decides}
use Rattle.std.specs.Cmp.Lexicographic.{slice_cmp, texts_ties}
use Rattle.std.specs.List.{AllAdjacentBelow, position, position_or_len}
use Rattle.std.specs.Ordering.{nat_cmp, is_eq}
use Rattle.std.specs.Str.{bytes_eq}
use Rattle.mib_model.specs.declared.packet.Value.{Value}
use Rattle.mib_model.specs.Kept.{Kept, keeping, nothing_kept, entered, has_number}
use Rattle.param_plan.specs.Slices.{ParamSlice}
use Rattle.param_plan.proofs.NameFacts.{below-far, not-named}
use Rattle.param_state.specs.declared.slot.ParamSlot.{ParamSlot}
use Rattle.fold_state.specs.Boards.{Slots, board_of, kept_beside, memory_of, place_of}
use Rattle.param_state.specs.SlotViews.{kept_as, slot_name, vacant_for}
use Rattle.param_state.specs.ParamPlans.{is_name_of, plan_names}
use Rattle.fold_state.specs.Places.{Rise}
use Rattle.param_state.proofs.NamedFacts.{same-name}

module _ {X : Type 0} (p : X → Bool) where
  -- the first place that passes
  pub place-found : (xs : List X) (i : ℕ) (d : X) → i < length xs → p (get_or xs i d) ≡ true → ((k : ℕ) → k < i → p (get_or xs k d) ≡ false) → position p xs ≡ Some i
  place-found xs i d below here before =
      let is = position_or_len_is p xs i d (omega arith) before (λ _. here) in
      let within : ltb i (length xs) ≡ true = grind (arith, nat_tests) in
      rw (is, within) refl

  -- no place passes
  pub place-nowhere : (xs : List X) (d : X) → ((k : ℕ) → k < length xs → p (get_or xs k d) ≡ false) → position p xs ≡ None
  place-nowhere xs d none =
      let is = position_or_len_is p xs (length xs) d (omega arith) none (λ past. absurd (omega (arith, past))) in
      let without : ltb (length xs) (length xs) ≡ false = grind (arith, nat_tests) in
      rw (is, without) refl

  -- the pair at the first place that passes
  pub pair-found : {Y : Type 0} (xs : List X) (ys : List Y) (i : ℕ) (d : X) (e : Y) → i < length xs → i < length ys → p (get_or xs i d) ≡ true
      → ((k : ℕ) → k < i → p (get_or xs k d) ≡ false) → find (λ (pair : X × Y). p pair.0) (zip xs ys) ≡ Some (get_or xs i d, get_or ys i e)
  pair-found [] ys i d e below below' here before = absurd (omega (arith, below))
  pair-found (x ∷ xs) [] i d e below below' here before = absurd (omega (arith, below'))
  pair-found (x ∷ xs) (y ∷ ys) zero d e below below' here before = rw here refl
  pair-found (x ∷ xs) (y ∷ ys) (suc i) d e below below' here before =
      rw (before 0 (omega arith)) (pair-found xs ys i d e (omega (arith, below)) (omega (arith, below')) here (λ k b. before (suc k) (omega (arith, b))))

  -- no pair passes
  pub pair-nowhere : {Y : Type 0} (xs : List X) (ys : List Y) (d : X) → ((k : ℕ) → k < length xs → p (get_or xs k d) ≡ false) → find (λ (pair : X × Y). p pair.0) (zip xs ys) ≡ None
  pair-nowhere [] ys d none = refl
  pair-nowhere (x ∷ xs) [] d none = refl
  pair-nowhere (x ∷ xs) (y ∷ ys) d none = rw (none 0 (omega arith)) (pair-nowhere xs ys d (λ k b. none (suc k) (omega (arith, b))))

  -- a write beside what doesn't pass
  pub pair-past : {Y : Type 0} (xs : List X) (ys : List Y) (i : ℕ) (y : Y) (d : X) → p (get_or xs i d) ≡ false
      → find (λ (pair : X × Y). p pair.0) (zip xs (set ys i y)) ≡ find (λ (pair : X × Y). p pair.0) (zip xs ys)
  pair-past [] ys i y d fails = refl
  pair-past (x ∷ xs) [] i y d fails = refl
  pair-past (x ∷ xs) (z ∷ ys) zero y d fails = rw fails refl
  pair-past (x ∷ xs) (z ∷ ys) (suc i) y d fails = ap (λ rest. cond (p x) (Some (x, z)) rest) (pair-past xs ys i y d fails)

other-name : (x y z : List ℕ) → x ≡ y → bytes_eq z y ≡ false → bytes_eq x z ≡ false
other-name x y z same fails = elim (cases_Bool (bytes_eq x z)) [
  | inl equal ↦ absurd (false≢true (sym fails ∙ (bytes_eq-Decides z y).1 (sym (same-name x z equal) ∙ same)))
  | inr apart ↦ apart
]

-- what is kept at the place of a name is kept of the name
pub kept-at : (board : Slots) (name : List ℕ) (i : ℕ) (s : ParamSlot) → length board.slots ≡ length board.names → place_of board name ≡ Some i → s ≡ get_or board.slots i s
    → kept_as s ≡ memory_of board name
kept-at board name i s long at is =
    let place = position-Some (is_name_of name) board.names i [] at in
    let found = pair-found (is_name_of name) board.names board.slots i [] s place.0 (omega (arith, long, place.0)) place.1 place.2 in
    ap kept_as is ∙ sym (ap kept_beside found)

-- nothing is kept of a name that has no place
pub kept-nowhere : (board : Slots) (name : List ℕ) → ((k : ℕ) → k < length board.names → is_name_of name (get_or board.names k []) ≡ false) → memory_of board name ≡ nothing_kept
kept-nowhere board name none = ap kept_beside (pair-nowhere (is_name_of name) board.names board.slots [] none)

-- something else kept at the place of a name is kept of that name alone
pub kept-set : (board : Slots) (name : List ℕ) (i : ℕ) (s : ParamSlot) → length board.slots ≡ length board.names → place_of board name ≡ Some i
    → memory_of (record { names = board.names; slots = set board.slots i s }) ≡ keeping (memory_of board) name (kept_as s)
kept-set board name i s long at = λ j other. each other j where
  place : (i < length board.names) × (is_name_of name (get_or board.names i []) ≡ true) × ((k : ℕ) → k < i → is_name_of name (get_or board.names k []) ≡ false)
  place = position-Some (is_name_of name) board.names i [] at

  each : (other : List ℕ) → memory_of (record { names = board.names; slots = set board.slots i s }) other ≡ keeping (memory_of board) name (kept_as s) other
  each other = elim (cases_Bool (bytes_eq other name)) [
    | inl equal ↦
        let within : i < length (set board.slots i s) = (let same = length-set board.slots i s in omega (arith, same, long, place.0)) in
        let found = pair-found (is_name_of name) board.names (set board.slots i s) i [] s place.0 within place.1 place.2 in
        let kept : memory_of (record { names = board.names; slots = set board.slots i s }) name ≡ kept_as s =
        ap kept_beside found ∙ ap kept_as (get_or-set_same board.slots i s s (omega (arith, long, place.0))) in
        rw equal (subst (λ (x : List ℕ). memory_of (record { names = board.names; slots = set board.slots i s }) x ≡ kept_as s) (sym (same-name other name equal)) kept)
    | inr apart ↦
        rw apart (ap kept_beside (pair-past (is_name_of other) board.names board.slots i s [] (other-name (get_or board.names i []) name other (same-name _ _ place.1) apart)))
  ]

-- a raw number kept at the place of a value's name is the latest of that name
pub latest-set : (board : Slots) (v : Value) (i : ℕ) (s t : ParamSlot) → length board.slots ≡ length board.names → place_of board v.name ≡ Some i → s ≡ get_or board.slots i s
    → kept_as t ≡ record (kept_as s) { latest = Some v.raw } → has_number v.shape.sort ≡ true → memory_of (record { names = board.names; slots = set board.slots i t }) ≡ entered (memory_of board) v
latest-set board v i s t long at is wrote number =
    let made : kept_as t ≡ record (memory_of board v.name) { latest = Some v.raw } = wrote ∙ ap (λ (k : Kept). record k { latest = Some v.raw }) (kept-at board v.name i s long at is) in
    rw number (kept-set board v.name i t long at ∙ ap (keeping (memory_of board) v.name) made)

-- names that rise have their place where a search ends
pub place-risen : (names : List (List ℕ)) (name : List ℕ) (i : ℕ) → Rise names → i < length names → get_or names i [] ≡ name → position (is_name_of name) names ≡ Some i
place-risen names name i up below here = place-found (is_name_of name) names i [] below ((bytes_eq-Decides (get_or names i []) name).1 here)
    (λ k before. not-named (λ (x : List ℕ). x) name (get_or names k []) Less (subst (λ (x : List ℕ). slice_cmp nat_cmp (get_or names k []) x ≡ Less) here
    (below-far (λ (x : List ℕ). x) name names up k i [] before below)) refl)

-- the names of plans that ascend rise
pub rise-map : (slices : List ParamSlice) → AllAdjacentBelow (λ x y. slice_cmp nat_cmp x.pcf.name y.pcf.name ≡ Less) slices (length slices) → Rise (plan_names slices)
rise-map [] up = λ k d below. absurd (omega (arith, below))
rise-map (s ∷ slices) up = λ k d below.
    let all : List ParamSlice = s ∷ slices in
    let name : ParamSlice → List ℕ = λ slice. slice.pcf.name in
    let long : length (map name all) ≡ length all = simp length-map in
    let here = get_or-map name all k s d (omega (arith, below, long)) in
    let next = get_or-map name all (k + 1) s d (omega (arith, below, long)) in
    subst (λ (y : List ℕ). slice_cmp nat_cmp (get_or (map name all) k d) y ≡ Less) (sym next)
    (subst (λ (x : List ℕ). slice_cmp nat_cmp x (name (get_or all (k + 1) s)) ≡ Less) (sym here) (up k s (omega (arith, below, long))))

-- nothing is kept where each slot keeps nothing
pub kept-none : (params : List ParamSlice) (name : List ℕ) → memory_of (board_of (map vacant_for params)) name ≡ nothing_kept
kept-none [] name = refl
kept-none (slice ∷ params) name = elim (cases_Bool (is_name_of name slice.pcf.name)) [
  | inl equal ↦ rw equal refl
  | inr apart ↦ rw apart (kept-none params name)
]

-- slots for plans have their names
pub names-vacant : (params : List ParamSlice) → map slot_name (map vacant_for params) ≡ plan_names params
names-vacant [] = refl
names-vacant (slice ∷ params) = ap (λ (names : List (List ℕ)). slice.pcf.name ∷ names) (names-vacant params)

-- nothing is kept without slots
pub kept-empty : (names : List (List ℕ)) (name : List ℕ) → memory_of (record { names = names; slots = [] }) name ≡ nothing_kept
kept-empty [] name = refl
kept-empty (own ∷ names) name = refl

-- there are as many slots as names
pub slots-long : (slots : List ParamSlot) → length slots ≡ length (map slot_name slots)
slots-long slots = sym (simp length-map)

-- a place of a board is one of its slots
pub slot-within : (slots : List ParamSlot) (board : Slots) (i : ℕ) → board_of slots ≡ board → i < length board.names → i < length slots
slot-within slots board i is below =
    let long = slots-long slots in
    let same : length (map slot_name slots) ≡ length board.names = ap (λ (b : Slots). length b.names) is in
    omega (arith, long, same, below)

-- a slot at a place has the name there
pub name-at : (slots : List ParamSlot) (i : ℕ) (s : ParamSlot) → i < length slots → s ≡ get_or slots i s → get_or (map slot_name slots) i [] ≡ s.name
name-at slots i s below is = get_or-map slot_name slots i s [] below ∙ ap slot_name (sym is)

-- a slot of the same name in place of one leaves the names
pub names-set : (slots : List ParamSlot) (i : ℕ) (s t : ParamSlot) → i < length slots → s ≡ get_or slots i s → t.name ≡ s.name → map slot_name (set slots i t) ≡ map slot_name slots
names-set [] i s t below is same = absurd (omega (arith, below))
names-set (x ∷ slots) zero s t below is same = ap (λ (name : List ℕ). name ∷ map slot_name slots) (same ∙ ap slot_name is)
names-set (x ∷ slots) (suc i) s t below is same = ap (λ (names : List (List ℕ)). x.name ∷ names) (names-set slots i s t (omega (arith, below)) is same)

abbrev with_names : List (List ℕ) → List ParamSlot → Slots
with_names names slots = record { names = names; slots = slots }

-- the board with a slot of the same name in place of one
pub board-set : (slots : List ParamSlot) (i : ℕ) (s t : ParamSlot) → i < length slots → s ≡ get_or slots i s → t.name ≡ s.name
    → board_of (set slots i t) ≡ record { names = map slot_name slots; slots = set slots i t }
board-set slots i s t below is same = ap (λ (names : List (List ℕ)). with_names names (set slots i t)) (names-set slots i s t below is same)

-- a place that isn't there is that of no name
pub nowhere : (p : List ℕ → Bool) (names : List (List ℕ)) → position p names ≡ None → (k : ℕ) → k < length names → p (get_or names k []) ≡ false
nowhere p names none k below = elim (cases_lt (position_or_len p names) (length names)) [
  | inl within ↦ absurd (let is : ltb (position_or_len p names) (length names) ≡ true = grind (arith, nat_tests) in
      let some : ◌≡◌ {A = Option ℕ} (Some (position_or_len p names)) None = rw is at none in cc)
  | inr past ↦ fails_before_first p names k [] (omega (arith, past, below))
]

-- nothing is kept of a name without a place
pub kept-missing : (board : Slots) (name : List ℕ) → place_of board name ≡ None → memory_of board name ≡ nothing_kept
kept-missing board name none = kept-nowhere board name (nowhere (is_name_of name) board.names none)

-- a place is one of a name
pub place-within : (board : Slots) (name : List ℕ) (i : ℕ) → place_of board name ≡ Some i → i < length board.names
place-within board name i at = (position-Some (is_name_of name) board.names i [] at).0

equal-is : (r : Ordering) → r ≡ Equal → is_eq r ≡ true
equal-is r e = ap is_eq e

-- names that are neither less nor greater are equal
pub name-tied : (x y : List ℕ) → slice_cmp nat_cmp x y ≡ Equal → x ≡ y
name-tied x y tied = same-name x y (texts_ties x y ∙ equal-is _ tied)
