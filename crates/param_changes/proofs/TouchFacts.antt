-- Which blocks of plans an edit touches.
use Rattle.std.proofs.Common.{◌≡◌, ◌∙◌, ℕ, nat_eq, zero, suc, ◌+◌, ◌*◌, ◌/◌, ◌<◌, Bool, true, false, ◌||◌, List, [], ◌∷◌, ◌++◌, All, Option, Some, None, filter, length, get_or, map, take, refl, sym, ap, subst, arith, flat_map, inl, inr}
use Rattle.std.proofs.lemmas.Bool.{cases_Bool, false≢true}
use Rattle.std.proofs.lemmas.Bool.Decides.{nat_tests}
use Rattle.std.proofs.lemmas.List.{get_or_default}
use Rattle.std.proofs.lemmas.List.Folds.{list_any-append}
use Rattle.std.proofs.lemmas.Nat.{div-mul-add}
use Rattle.std.proofs.lemmas.Slice.Eq.{bytes_eq-Decides}
use Rattle.std.specs.List.{list_any, position}
use Rattle.std.specs.Str.{bytes_eq}
use Rattle.mib_model.specs.declared.database.Database.{Database}
use Rattle.mib_model.specs.declared.rows.CurRow.{CurRow}
use Rattle.param_plan.specs.Blocks.{IsCut}
use Rattle.param_plan.specs.Names.{Ascend}
use Rattle.param_plan.specs.Slices.{ParamSlice}
use Rattle.param_plan.proofs.BlockFacts.{stands}
use Rattle.param_plan.proofs.NameFacts.{place-named}
use Rattle.param_changes.proofs.BesideFacts.{kept-now, not-other}
use Rattle.param_changes.specs.Beside.{AreKeptBy, AreUntouched, IsKeptBy, has_changed, has_changed_curve, is_other, now_of}
use Rattle.param_changes.specs.Changed.{has_name, takes_any}
use Rattle.param_changes.specs.declared.changed.Changed.{Changed}
use Rattle.param_changes.specs.Touches.{Touches}

or-left : (b c : Bool) → c ≡ false → (b || (c || false)) ≡ true → b ≡ true
or-left true c fails h = refl
or-left false c fails h = absurd (false≢true (sym (ap (λ (d : Bool). d || false) fails) ∙ h))

or-right : (b c : Bool) → c ≡ true → (b || (c || false)) ≡ true
or-right true c holds = refl
or-right false c holds = ap (λ (d : Bool). d || false) holds

module _ {X : Type 0} (p : X → Bool) (xs : List X) where
  any-behind : (ys : List X) → list_any p xs ≡ true → list_any p (xs ++ ys) ≡ true
  any-behind ys any = list_any-append p xs ys ∙ ap (λ (b : Bool). b || list_any p ys) any

  any-last : (y : X) → p y ≡ true → list_any p (xs ++ y ∷ []) ≡ true
  any-last y here = list_any-append p xs (y ∷ []) ∙ or-right (list_any p xs) (p y) here

  any-before : (y : X) → list_any p (xs ++ y ∷ []) ≡ true → p y ≡ false → list_any p xs ≡ true
  any-before y any fails = or-left (list_any p xs) (p y) fails (sym (list_any-append p xs (y ∷ [])) ∙ any)

abbrev place : List ParamSlice → List ℕ → Option ℕ
place slices name = position (λ slice. bytes_eq slice.pcf.name name) slices

-- with the block of one more name
pub touches-more : (touched : List ℕ) (slices : List ParamSlice) (names : List (List ℕ)) (own : List ℕ) (at : ℕ) → Touches touched slices names → place slices own ≡ Some at
    → Touches (touched ++ (at / 64) ∷ []) slices (names ++ own ∷ [])
touches-more touched slices names own at before here name k has found = elim (cases_Bool (bytes_eq own name)) [
  | inl equal ↦
      let same : own ≡ name = (bytes_eq-Decides own name).0 equal in
      let both : ◌≡◌ {A = Option ℕ} (Some at) (Some k) = sym here ∙ (ap (place slices) same ∙ found) in
      let is : at ≡ k = cc in
      any-last (λ n. nat_eq n (k / 64)) touched (at / 64) (subst (λ (n : ℕ). nat_eq (at / 64) (n / 64) ≡ true) is (own-number (at / 64)))
  | inr apart ↦ any-behind (λ n. nat_eq n (k / 64)) touched ((at / 64) ∷ []) (before name k (any-before (λ m. bytes_eq m name) names own has apart) found)
] where
  own-number : (n : ℕ) → nat_eq n n ≡ true
  own-number n = grind (arith, nat_tests)

-- with one more name that has no plan
pub touches-same : (touched : List ℕ) (slices : List ParamSlice) (names : List (List ℕ)) (own : List ℕ) → Touches touched slices names → place slices own ≡ None → Touches touched slices (names ++ own ∷ [])
touches-same touched slices names own before none name k has found = elim (cases_Bool (bytes_eq own name)) [
  | inl equal ↦
      let same : own ≡ name = (bytes_eq-Decides own name).0 equal in
      let both : ◌≡◌ {A = Option ℕ} None (Some k) = sym none ∙ (ap (place slices) same ∙ found) in
      absurd (cc both)
  | inr apart ↦ before name k (any-before (λ m. bytes_eq m name) names own has apart) found
]

module _ {X : Type 0} (f : X → List ParamSlice) (blocks : List X) (cut : IsCut f blocks) (k : ℕ) (e : X) (low : k < length blocks) where
  -- what holds of all holds of a block
  pub all-block : (P : ParamSlice → Type 0) → All P (flat_map f blocks) → All P (f (get_or blocks k e))
  all-block P all = λ j d below. (let s = stands f blocks k j (k * 64 + j) e cut low below refl in subst P (s.2 d) (all (k * 64 + j) d s.1))

  -- a block that isn't touched has no parameter of these names
  pub untouched-block : (touched : List ℕ) (names : List (List ℕ)) → Ascend (flat_map f blocks) → Touches touched (flat_map f blocks) names → list_any (λ n. nat_eq n k) touched ≡ false
      → All (λ slice. has_name names slice.pcf.name ≡ false) (f (get_or blocks k e))
  untouched-block touched names ascend touches none = λ j d below. elim (cases_Bool (has_name names (get_or (f (get_or blocks k e)) j d).pcf.name)) [
    | inl has ↦ absurd (
        let x = get_or (f (get_or blocks k e)) j d in
        let s = stands f blocks k j (k * 64 + j) e cut low below refl in
        let is : x ≡ get_or (flat_map f blocks) (k * 64 + j) x = sym (s.2 d) ∙ get_or_default (flat_map f blocks) (k * 64 + j) d x s.1 in
        let found = place-named (λ (slice : ParamSlice). slice.pcf.name) x.pcf.name (flat_map f blocks) ascend (k * 64 + j) x s.1 is ((bytes_eq-Decides x.pcf.name x.pcf.name).1 refl) in
        let any = touches x.pcf.name (k * 64 + j) has found in
        let same : (k * 64 + j) / 64 ≡ k = div-mul-add k 64 j s.0 in
        false≢true (sym none ∙ subst (λ (m : ℕ). list_any (λ n. nat_eq n m) touched ≡ true) same any))
    | inr apart ↦ apart
  ]

rest : {X : Type 0} (P : X → Type 0) (x : X) (xs : List X) → All P (x ∷ xs) → All P xs
rest P x xs all = λ k d below. all (suc k) d (omega (arith, below))

module _ (changed : Changed) (db : Database) where
  abbrev is_kept : ParamSlice → Type 0
  is_kept slice = IsKeptBy changed slice db

  abbrev is_named_apart : ParamSlice → Type 0
  is_named_apart slice = has_changed changed slice ≡ false

  abbrev is_free : ParamSlice → Type 0
  is_free slice = has_changed_curve changed slice ≡ false

  first-now : (slice : ParamSlice) (slices : List ParamSlice) → AreKeptBy changed (slice ∷ slices) db → AreUntouched changed (slice ∷ slices) → slice ≡ now_of db slice
  first-now slice slices kept un = kept-now changed slice db (kept 0 slice (omega arith)) (un.0 0 slice (omega arith)) (un.1 0 slice (omega arith))

  -- slices of which nothing changed are those of their parameters
  pub untouched-now : (slices : List ParamSlice) → AreKeptBy changed slices db → AreUntouched changed slices → slices ≡ map (now_of db) slices
  untouched-now [] kept un = refl
  untouched-now (slice ∷ slices) kept un =
      let first = first-now slice slices kept un in
      let others = untouched-now slices (rest is_kept slice slices kept) (rest is_named_apart slice slices un.0, rest is_free slice slices un.1) in
      λ i. first i ∷ others i

  -- and none of them is another now
  pub untouched-none : (slices : List ParamSlice) → AreKeptBy changed slices db → AreUntouched changed slices → filter (is_other db) slices ≡ []
  untouched-none [] kept un = refl
  untouched-none (slice ∷ slices) kept un =
      let first = not-other db slice (first-now slice slices kept un) in
      rw (sym first) (untouched-none slices (rest is_kept slice slices kept) (rest is_named_apart slice slices un.0, rest is_free slice slices un.1))

-- no curve is one of no names
pub takes-none : (curtx : Option (List ℕ)) (curs : List CurRow) → takes_any [] curtx curs ≡ false
takes-none (Some name) curs = refl
takes-none None [] = refl
takes-none None (cur ∷ curs) = takes-none None curs
