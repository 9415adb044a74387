-- What is found by its name among items whose names ascend.
use Rattle.std.proofs.Common.{◌≡◌, ◌∙◌, ℕ, zero, suc, ◌+◌, ◌-◌, ◌<◌, ◌≤◌, inl, inr, Bool, true, false, List, [], ◌∷◌, Option, Some, None, Less, Equal, Greater, Ordering, length, get_or, refl, sym, ap, subst, arith, ltb}
use Rattle.std.proofs.lemmas.Bool.{cases_lt, cases_order}
use Rattle.std.proofs.lemmas.List.{get_or_default}
use Rattle.std.proofs.lemmas.List.Sorted.{IsPermutation-refl, searchable_from_sorted}
use Rattle.std.specs.Cmp.{tied_back}
use Rattle.std.specs.Cmp.Lexicographic.{nat_list_cmp_total, slice_cmp, texts_ties}
use Rattle.std.proofs.lemmas.Bool.Decides.{nat_tests}
use Rattle.std.proofs.lemmas.List.Quantifiers.{position-Some}
use Rattle.std.proofs.lemmas.List.Sums.{fails_before_first, position_or_len_is}
use Rattle.std.proofs.lemmas.Slice.Eq.{bytes_eq-Decides}
use Rattle.std.specs.List.{AllAdjacentBelow, find, position, position_or_len}
use Rattle.std.specs.List.Sorted.{IsNonDecreasingBy, IsPartitionPoint, IsSortedBy}
use Rattle.std.specs.Ordering.{is_eq, is_lt, nat_cmp, ordering_index, ordering_reverse}
use Rattle.std.specs.Str.{bytes_eq}
use Rattle.curve_plan.proofs.FindFacts.{found-none, found-only}

abbrev order : List ℕ → List ℕ → Ordering
order = slice_cmp nat_cmp

equal-from : (r : Ordering) → is_eq r ≡ true → r ≡ Equal
equal-from Less e = absurd (cc e)
equal-from Equal e = refl
equal-from Greater e = absurd (cc e)

module _ {X : Type 0} (p : X → Bool) where
  -- the first place that passes
  pub place-first : (xs : List X) (i : ℕ) (d : X) → i < length xs → p (get_or xs i d) ≡ true → ((k : ℕ) → k < i → p (get_or xs k d) ≡ false) → position p xs ≡ Some i
  place-first xs i d below here before =
      let is = position_or_len_is p xs i d (omega arith) before (λ _. here) in
      let within : ltb i (length xs) ≡ true = grind (arith, nat_tests) in
      rw (is, within) refl

  -- no place passes
  pub place-none : (xs : List X) → ((k : ℕ) (d : X) → k < length xs → p (get_or xs k d) ≡ false) → position p xs ≡ None
  place-none [] none = refl
  place-none (x ∷ xs) none =
      let is = position_or_len_is p (x ∷ xs) (length (x ∷ xs)) x (omega arith) (λ k below. none k x below) (λ past. absurd (omega (arith, past))) in
      let without : ltb (length (x ∷ xs)) (length (x ∷ xs)) ≡ false = grind (arith, nat_tests) in
      rw (is, without) refl

  -- what is found is the item at the first place that passes
  first-found : (xs : List X) (k : ℕ) (d : X) → k < length xs → p (get_or xs k d) ≡ true → ((j : ℕ) → j < k → p (get_or xs j d) ≡ false) → find p xs ≡ Some (get_or xs k d)
  first-found [] k d below here before = absurd (omega (arith, below))
  first-found (x ∷ xs) zero d below here before = rw here refl
  first-found (x ∷ xs) (suc k) d below here before = rw (before 0 (omega arith)) (first-found xs k d (omega (arith, below)) here (λ j b. before (suc j) (omega (arith, b))))

  pub found-placed : (xs : List X) (k : ℕ) (x : X) → position p xs ≡ Some k → x ≡ get_or xs k x → find p xs ≡ Some x
  found-placed xs k x at is = let place = position-Some p xs k x at in first-found xs k x place.0 place.1 place.2 ∙ ap Some (sym is)

  none-found : (xs : List X) → ((k : ℕ) (d : X) → k < length xs → p (get_or xs k d) ≡ false) → find p xs ≡ None
  none-found [] none = refl
  none-found (x ∷ xs) none = rw (none 0 x (omega arith)) (none-found xs (λ k d below. none (suc k) d (omega (arith, below))))

  -- nothing is found where no place passes
  pub missing-placed : (xs : List X) → position p xs ≡ None → find p xs ≡ None
  missing-placed xs none = none-found xs (λ k d below. elim (cases_lt (position_or_len p xs) (length xs)) [
    | inl within ↦ absurd (let is : ltb (position_or_len p xs) (length xs) ≡ true = grind (arith, nat_tests) in
        let some : ◌≡◌ {A = Option ℕ} (Some (position_or_len p xs)) None = rw is at none in cc)
    | inr past ↦ fails_before_first p xs k d (omega (arith, past, below))
  ])

module _ {X : Type 0} (key : X → List ℕ) (name : List ℕ) where
  abbrev pub is_named : X → Bool
  is_named x = bytes_eq (key x) name

  abbrev pub Rise : List X → Type 0
  Rise xs = AllAdjacentBelow (λ x y. order (key x) (key y) ≡ Less) xs (length xs)

  rise-far : (xs : List X) → Rise xs → (i n : ℕ) (d : X) → i + suc n < length xs → order (key (get_or xs i d)) (key (get_or xs (i + suc n) d)) ≡ Less
  rise-far xs up i zero d below = up i d (omega (arith, below))
  rise-far xs up i (suc n) d below =
      let before = rise-far xs up i n d (omega (arith, below)) in
      let next = up (i + suc n) d (omega (arith, below)) in
      let same : i + suc n + 1 ≡ i + suc (suc n) = omega arith in
      let next' : order (key (get_or xs (i + suc n) d)) (key (get_or xs (i + suc (suc n)) d)) ≡ Less = subst (λ k. order (key (get_or xs (i + suc n) d)) (key (get_or xs k d)) ≡ Less) same next in
      nat_list_cmp_total.trans (key (get_or xs i d)) (key (get_or xs (i + suc n) d)) (key (get_or xs (i + suc (suc n)) d)) before next'

  further : (i j : ℕ) → i < j → i + suc (j - suc i) ≡ j
  further i j h = omega (arith, h)

  -- an item is less than each one further on
  pub below-far : (xs : List X) → Rise xs → (i j : ℕ) (d : X) → i < j → j < length xs → order (key (get_or xs i d)) (key (get_or xs j d)) ≡ Less
  below-far xs up i j d before below = subst (λ k. order (key (get_or xs i d)) (key (get_or xs k d)) ≡ Less) (further i j before) (rise-far xs up i (j - suc i) d (let f = further i j before in omega (arith, below, f)))

  tied : (x : X) → is_named x ≡ true → order (key x) name ≡ Equal
  tied x h = equal-from (order (key x) name) (sym (texts_ties (key x) name) ∙ h)

  not-both : (xs : List X) → Rise xs → (i j : ℕ) (d : X) → i < j → j < length xs → is_named (get_or xs i d) ≡ true → is_named (get_or xs j d) ≡ true → Less ≡ Equal
  not-both xs up i j d before below h k =
      let less = below-far xs up i j d before below in
      let along = nat_list_cmp_total.congr (key (get_or xs i d)) name (key (get_or xs j d)) (tied (get_or xs i d) h) in
      let back = tied_back nat_list_cmp_total (key (get_or xs j d)) name (tied (get_or xs j d) k) in
      sym less ∙ (along ∙ back)

  once : (xs : List X) → Rise xs → (i j : ℕ) (d : X) → i < length xs → j < length xs → is_named (get_or xs i d) ≡ true → is_named (get_or xs j d) ≡ true → i ≡ j
  once xs up i j d a b h k = elim (cases_order i j) [
    | inl e ↦ e
    | inr f ↦ elim f [
      | inl l ↦ absurd (cc (not-both xs up i j d l b h k))
      | inr l ↦ absurd (cc (not-both xs up j i d l a k h))
    ]
  ]

  -- the item that is found has the name
  pub named-found : (xs : List X) → Rise xs → (k : ℕ) (x : X) → k < length xs → get_or xs k x ≡ x → order (key x) name ≡ Equal → find is_named xs ≡ Some x
  named-found xs up k x below is same =
      let here : is_named x ≡ true = texts_ties (key x) name ∙ ap is_eq same in
      found-only is_named xs xs k x (IsPermutation-refl xs) below is here
      (λ j d b h. once xs up j k d b below h (ap is_named (get_or_default xs k d x below ∙ is) ∙ here))

  sorted : (xs : List X) → Rise xs → IsSortedBy (λ x y. is_lt (order (key x) (key y))) xs
  sorted xs up = λ k d low below. ap is_lt (nat_list_cmp_total.antisymm (key (get_or xs (k + 1) d)) (key (get_or xs k d)) ∙ ap ordering_reverse (up k d below))

  -- an item that is less or greater than a name has another
  pub not-named : (x : X) (r : Ordering) → order (key x) name ≡ r → is_eq r ≡ false → is_named x ≡ false
  not-named x r e f = texts_ties (key x) name ∙ (ap is_eq e ∙ f)

  -- where a search ends between lower and higher names, each item has another name
  pub named-nowhere : (xs : List X) → Rise xs → (i : ℕ)
      → (IsNonDecreasingBy (λ y. ordering_index (order (key y) name)) xs → IsPartitionPoint (λ y. order (key y) name ≡ Less) (λ y. order (key y) name ≡ Greater) xs i)
      → (j : ℕ) (d : X) → j < length xs → is_named (get_or xs j d) ≡ false
  named-nowhere xs up i ends j d b =
      let parts = ends (searchable_from_sorted nat_list_cmp_total key xs name (sorted xs up)) in
      elim (cases_lt j i) [
        | inl l ↦ not-named (get_or xs j d) Less (parts.0 j d (omega arith) l) refl
        | inr l ↦ not-named (get_or xs j d) Greater (parts.1 j d l b) refl
      ]

  -- where a search ends between lower and higher names, no item has the name
  pub named-missing : (xs : List X) → Rise xs → (i : ℕ)
      → (IsNonDecreasingBy (λ y. ordering_index (order (key y) name)) xs → IsPartitionPoint (λ y. order (key y) name ≡ Less) (λ y. order (key y) name ≡ Greater) xs i) → find is_named xs ≡ None
  named-missing xs up i ends = found-none is_named xs xs (IsPermutation-refl xs) (named-nowhere xs up i ends)

  -- an item of a name is at the first place of the name
  pub place-named : (xs : List X) → Rise xs → (k : ℕ) (x : X) → k < length xs → x ≡ get_or xs k x → is_named x ≡ true → position is_named xs ≡ Some k
  place-named xs up k x below is here =
      let same : key (get_or xs k x) ≡ name = ap key (sym is) ∙ (bytes_eq-Decides (key x) name).0 here in
      place-first is_named xs k x below (ap is_named (sym is) ∙ here)
      (λ j before. not-named (get_or xs j x) Less (subst (λ (y : List ℕ). order (key (get_or xs j x)) y ≡ Less) same (below-far xs up j k x before below)) refl)

  -- an item that is neither less nor greater than a name is at its first place
  pub place-of-tied : (xs : List X) → Rise xs → (k : ℕ) → k < length xs → ((d : X) → order (key (get_or xs k d)) name ≡ Equal) → position is_named xs ≡ Some k
  place-of-tied [] up k below same = absurd (omega (arith, below))
  place-of-tied (x ∷ xs) up k below same =
      let item = get_or (x ∷ xs) k x in
      place-named (x ∷ xs) up k item below (get_or_default (x ∷ xs) k x item below) (texts_ties (key item) name ∙ ap is_eq (same x))

  -- where a search ends between lower and higher names, the name has no place
  pub place-missing : (xs : List X) → Rise xs → (i : ℕ)
      → (IsNonDecreasingBy (λ y. ordering_index (order (key y) name)) xs → IsPartitionPoint (λ y. order (key y) name ≡ Less) (λ y. order (key y) name ≡ Greater) xs i) → position is_named xs ≡ None
  place-missing xs up i ends = place-none is_named xs (named-nowhere xs up i ends)

  -- items up to one that is less than a name are less
  pub less-before : (xs : List X) → Rise xs → (j i : ℕ) (d : X) → i ≤ j → j < length xs → order (key (get_or xs j d)) name ≡ Less → order (key (get_or xs i d)) name ≡ Less
  less-before xs up j i d before below less = elim (cases_lt i j) [
    | inl l ↦ nat_list_cmp_total.trans (key (get_or xs i d)) (key (get_or xs j d)) name (below-far xs up i j d l below) less
    | inr l ↦ let same : j ≡ i = omega (arith, before, l) in subst (λ (k : ℕ). order (key (get_or xs k d)) name ≡ Less) same less
  ]

  turned : (x y : List ℕ) → order x y ≡ Less → order y x ≡ Greater
  turned x y less = nat_list_cmp_total.antisymm y x ∙ ap ordering_reverse less

  -- items from one on that is greater than a name are greater
  pub greater-behind : (xs : List X) → Rise xs → (j i : ℕ) (d : X) → j ≤ i → i < length xs → order (key (get_or xs j d)) name ≡ Greater → order (key (get_or xs i d)) name ≡ Greater
  greater-behind xs up j i d behind below greater = elim (cases_lt j i) [
    | inl l ↦
        let back : order name (key (get_or xs j d)) ≡ Less = nat_list_cmp_total.antisymm name (key (get_or xs j d)) ∙ ap ordering_reverse greater in
        turned name (key (get_or xs i d)) (nat_list_cmp_total.trans name (key (get_or xs j d)) (key (get_or xs i d)) back (below-far xs up j i d l below))
    | inr l ↦ let same : j ≡ i = omega (arith, behind, l) in subst (λ (k : ℕ). order (key (get_or xs k d)) name ≡ Greater) same greater
  ]

  -- where all below a place are less than a name and all from it on greater, the name has no place
  pub place-between : (xs : List X) (i : ℕ) → ((k : ℕ) (d : X) → k < i → order (key (get_or xs k d)) name ≡ Less) → ((k : ℕ) (d : X) → i ≤ k → k < length xs → order (key (get_or xs k d)) name ≡ Greater)
      → position is_named xs ≡ None
  place-between xs i less greater = place-none is_named xs (λ k d below. elim (cases_lt k i) [
    | inl l ↦ not-named (get_or xs k d) Less (less k d l) refl
    | inr l ↦ not-named (get_or xs k d) Greater (greater k d l below) refl
  ])
