-- Places in a row: none filled, one filled, the first taken.
use Rattle.std.proofs.Common.{◌≡◌, ◌<◌, ◌≤◌, ◌+◌, ◌-◌, ◌^◌, ◌==◌, ℕ, zero, suc, true, List, [], ◌∷◌, ◌++◌, Option, Some, None, refl, set, get_or, arith, if◌then◌else◌, ⊎_elim}
use Rattle.std.proofs.lemmas.Bool.{cases_lt, cases_eq}
use Rattle.commit_order.specs.Places.{result_at, all_numbered}

-- no place has a result
abbrev pub AllNone : {R : Type 0} → List (Option R) → Type 0
AllNone {R} places = (k : ℕ) → get_or places k None ≡ None

module _ {R : Type 0} where
  pub none_push : (places : List (Option R)) → AllNone places → AllNone (places ++ None ∷ [])
  none_push [] none zero = refl
  none_push [] none (suc k) = refl
  none_push (p ∷ places) none zero = none zero
  none_push (p ∷ places) none (suc k) = none_push places (λ j. none (suc j)) k

  pub none_numbered : (next : ℕ) (places : List (Option R)) → AllNone places → all_numbered next places ≡ true
  none_numbered next [] none = refl
  none_numbered next (None ∷ places) none = none_numbered (next + 1) places (λ j. none (suc j))
  none_numbered next (Some value ∷ places) none = absurd (cc (none zero))

  pub numbered_set : (next : ℕ) (places : List (Option R)) (place : ℕ) (value : R) → next + place < 2 ^ 64 → all_numbered next places ≡ true → all_numbered next (set places place (Some value)) ≡ true
  numbered_set next [] place value fits all = refl
  numbered_set next (None ∷ places) zero value fits all = grind (arith, all)
  numbered_set next (Some old ∷ places) zero value fits all = all
  numbered_set next (None ∷ places) (suc place) value fits all = numbered_set (next + 1) places place value (omega arith) all
  numbered_set next (Some old ∷ places) (suc place) value fits all = grind (arith, numbered_set (next + 1) places place value, all)

  pub numbered_push : (next : ℕ) (places : List (Option R)) → all_numbered next places ≡ true → all_numbered next (places ++ None ∷ []) ≡ true
  numbered_push next [] all = refl
  numbered_push next (None ∷ places) all = numbered_push (next + 1) places all
  numbered_push next (Some old ∷ places) all = grind (arith, numbered_push (next + 1) places, all)

  get-push_none : (places : List (Option R)) (k : ℕ) → get_or (places ++ None ∷ []) k None ≡ get_or places k None
  get-push_none [] zero = refl
  get-push_none [] (suc k) = refl
  get-push_none (p ∷ places) zero = refl
  get-push_none (p ∷ places) (suc k) = get-push_none places k

  -- once the first was taken, it waits no more, and the others do
  pub taken_waits : (next : ℕ) (first : Option R) (rest : List (Option R)) (m : ℕ) → result_at (next + 1) (rest ++ None ∷ []) m ≡ (if m == next then None else result_at next (first ∷ rest) m)
  taken_waits next first rest m = ⊎_elim
      (λ (lt : m < next). grind (arith, lt))
      (λ (ge : next ≤ m). ⊎_elim
      (λ (is : m ≡ next). grind (arith, is))
      (λ (isnt : m ≡ next → ⊥).
      let behind : m - next ≡ suc (m - (next + 1)) = omega (arith, ge, isnt) in
      let far : next + 1 ≤ m = omega (arith, ge, isnt) in
      rw (get-push_none rest (m - (next + 1)), behind) (grind (arith, far, ge, isnt)))
      (cases_eq m next))
      (cases_lt m next)

  -- the same of the places before and after a call
  pub waits_after : (next : ℕ) (old new rest : List (Option R)) (first : Option R) → old ≡ first ∷ rest → new ≡ rest ++ None ∷ [] → (m : ℕ) → result_at (next + 1) new m ≡ (if m == next then None else result_at next old m)
  waits_after next old new rest first was is m = rw (is, was) (taken_waits next first rest m)

  rest_numbered : (next : ℕ) (first : Option R) (rest : List (Option R)) → all_numbered next (first ∷ rest) ≡ true → all_numbered (next + 1) rest ≡ true
  rest_numbered next None rest all = all
  rest_numbered next (Some value) rest all = grind (arith, all)

  pub numbered_after : (next : ℕ) (old new rest : List (Option R)) (first : Option R) → old ≡ first ∷ rest → new ≡ rest ++ None ∷ [] → all_numbered next old ≡ true → all_numbered (next + 1) new ≡ true
  numbered_after next old new rest first was is all = rw is (numbered_push (next + 1) rest (rest_numbered next first rest (rw was at all)))
