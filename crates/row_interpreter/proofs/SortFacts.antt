-- A list that rises and keeps the order of what ties is the list put in order, item by item.
use Rattle.std.proofs.Common.{Less, Equal, Greater, ◌==◌, nat_le, nat_lt, ◌≡◌, ℕ, suc, ◌<◌, ◌≤◌, Bool, true, false, ◌&&◌, not, cond, List, [], ◌∷◌, length, get_or, filter, refl, sym, ap, ◌∙◌, arith}
use Rattle.std.proofs.lemmas.Bool.{le-leb, leb-true, ltb-false, ltb-true}
use Rattle.std.proofs.lemmas.Cmp.{nat_cmp_total}
use Rattle.std.proofs.lemmas.List.Sorted.{ranks_by, sorted_far}
use Rattle.std.specs.Cmp.{IsStrictWeakOrder}
use Rattle.std.specs.List.{AllByRecursion}
use Rattle.std.specs.List.Sorted.{IsSortedByKey, IsStableByKey}
use Rattle.std.specs.Ordering.{is_lt, nat_cmp}
use Rattle.mib_model.specs.Orders.{insert_by, sorted_by}

-- neither of two tests holds
neither : (a b : Bool) → a ≡ false → b ≡ false → (not a && not b) ≡ true
neither true b e f = absurd (cc e)
neither false true e f = absurd (cc f)
neither false false e f = refl

one-holds : (a b : Bool) → a ≡ true → (not a && not b) ≡ false
one-holds true b e = refl
one-holds false b e = absurd (cc e)

other-holds : (a b : Bool) → b ≡ true → (not a && not b) ≡ false
other-holds true b e = refl
other-holds false true e = refl
other-holds false false e = absurd (cc e)

both-fail : (a b : Bool) → (not a && not b) ≡ true → (a ≡ false) × (b ≡ false)
both-fail true b e = absurd (cc e)
both-fail false true e = absurd (cc e)
both-fail false false e = (refl, refl)

false-from : (b : Bool) → not b ≡ true → b ≡ false
false-from true e = absurd (cc e)
false-from false e = refl

true-from : (b : Bool) → not b ≡ false → b ≡ true
true-from true e = refl
true-from false e = absurd (cc e)

module _ {X : Type 0} (lt le : X → X → Bool) (o : IsStrictWeakOrder lt) (turned : (x y : X) → le x y ≡ not (lt y x)) where
  -- whether two tie
  abbrev pub tie : X → X → Bool
  tie x y = not (lt x y) && not (lt y x)

  -- no item comes before one that stands in front of it
  abbrev pub Rises : List X → Type 0
  Rises [] = Unit {0}
  Rises (x ∷ xs) = AllByRecursion (λ y. lt y x ≡ false) xs × Rises xs

  irreflexive : (x : X) → lt x x ≡ false
  irreflexive x = by (lt x x) refl where
    by : (b : Bool) → lt x x ≡ b → lt x x ≡ false
    by true e = o.one_way x x e
    by false e = e

  own : (x : X) (xs : List X) → filter (tie x) (x ∷ xs) ≡ x ∷ filter (tie x) xs
  own x xs = ap (λ (b : Bool). cond b (x ∷ filter (tie x) xs) (filter (tie x) xs)) (neither (lt x x) (lt x x) (irreflexive x) (irreflexive x))

  -- what comes no earlier than something greater doesn't tie
  past : (x y z : X) → lt x y ≡ true → lt z y ≡ false → lt x z ≡ true
  past x y z less up = by (lt x z) refl where
    by : (b : Bool) → lt x z ≡ b → lt x z ≡ true
    by true e = e
    by false e = absurd (let f = o.chain x z y e up in cc)

  no-tie : (x y : X) (ys : List X) → lt x y ≡ true → AllByRecursion (λ z. lt z y ≡ false) ys → filter (tie x) ys ≡ []
  no-tie x y [] less up = refl
  no-tie x y (z ∷ zs) less up =
      ap (λ (b : Bool). cond b (z ∷ filter (tie x) zs) (filter (tie x) zs)) (one-holds (lt x z) (lt z x) (past x y z less up.0)) ∙ no-tie x y zs less up.1

  no-tie-first : (x y : X) (ys : List X) → lt x y ≡ true → Rises (y ∷ ys) → filter (tie x) (y ∷ ys) ≡ []
  no-tie-first x y ys less up = no-tie x y (y ∷ ys) less (irreflexive y, up.0)

  heads : (x y : X) (xs ys : List X) → x ∷ xs ≡ y ∷ ys → x ≡ y
  heads x y xs ys e = cc

  -- the first items of two lists that rise and have the same ties
  first-same : (x y : X) (xs ys : List X) → Rises (x ∷ xs) → Rises (y ∷ ys) → ((k : X) → filter (tie k) (x ∷ xs) ≡ filter (tie k) (y ∷ ys)) → x ≡ y
  first-same x y xs ys up too same = by (lt x y) refl (lt y x) refl where
    by : (a : Bool) → lt x y ≡ a → (b : Bool) → lt y x ≡ b → x ≡ y
    by true e b f = absurd (let none = no-tie-first x y ys e too in let some = own x xs in let s = same x in cc)
    by false e true f = absurd (let none = no-tie-first y x xs f up in let some = own y ys in let s = same y in cc)
    by false e false f =
        let both : filter (tie x) (y ∷ ys) ≡ y ∷ filter (tie x) ys =
        ap (λ (b : Bool). cond b (y ∷ filter (tie x) ys) (filter (tie x) ys)) (neither (lt x y) (lt y x) e f) in
        heads x y (filter (tie x) xs) (filter (tie x) ys) (sym (own x xs) ∙ (same x ∙ both))

  behind : (b : Bool) (x : X) (xs ys : List X) → cond b (x ∷ xs) xs ≡ cond b (x ∷ ys) ys → xs ≡ ys
  behind true x xs ys e = cc
  behind false x xs ys e = e

  -- lists that rise and have the same ties are one
  pub only : (xs ys : List X) → Rises xs → Rises ys → ((k : X) → filter (tie k) xs ≡ filter (tie k) ys) → xs ≡ ys
  only [] [] up too same = refl
  only [] (y ∷ ys) up too same = absurd (let some = own y ys in let s = same y in cc)
  only (x ∷ xs) [] up too same = absurd (let some = own x xs in let s = same x in cc)
  only (x ∷ xs) (y ∷ ys) up too same =
      let first : x ≡ y = first-same x y xs ys up too same in
      let rest : xs ≡ ys = only xs ys up.1 too.1
      (λ k. behind (tie k x) x (filter (tie k) xs) (filter (tie k) ys) (same k ∙ ap (λ (z : X). cond (tie k z) (z ∷ filter (tie k) ys) (filter (tie k) ys)) (sym first))) in
      λ i. first i ∷ rest i

  -- what ties with one item comes before none that ties with it
  apart-none : (k x y : X) → tie k x ≡ true → tie k y ≡ true → lt y x ≡ false
  apart-none k x y e f = o.chain y k x (both-fail (lt k y) (lt y k) f).1 (both-fail (lt k x) (lt x k) e).0

  -- an item put in its place
  put-ties : (k x : X) (ys : List X) → filter (tie k) (insert_by le x ys) ≡ filter (tie k) (x ∷ ys)
  put-ties k x [] = refl
  put-ties k x (y ∷ ys) = by (le x y) refl (tie k x) refl (tie k y) refl (put-ties k x ys) where
    by : (a : Bool) → le x y ≡ a → (b : Bool) → tie k x ≡ b → (c : Bool) → tie k y ≡ c → filter (tie k) (insert_by le x ys) ≡ filter (tie k) (x ∷ ys)
        → filter (tie k) (cond a (x ∷ y ∷ ys) (y ∷ insert_by le x ys)) ≡ filter (tie k) (x ∷ y ∷ ys)
    by true h b e c f others = refl
    by false h true e true f others =
        absurd (let less : lt y x ≡ true = true-from (lt y x) (sym (turned x y) ∙ h) in let not_less = apart-none k x y e f in cc)
    by false h true e false f others = rw (e, f) (rw e at others)
    by false h false e c f others = rw e (ap (λ (zs : List X). cond (tie k y) (y ∷ zs) zs) (rw e at others))

  sorted-ties : (k : X) (xs : List X) → filter (tie k) (sorted_by le xs) ≡ filter (tie k) xs
  unfolding sorted_by
  sorted-ties k [] = refl
  sorted-ties k (x ∷ xs) = put-ties k x (sorted_by le xs) ∙ ap (λ (zs : List X). cond (tie k x) (x ∷ zs) zs) (sorted-ties k xs)

  put-all : (P : X → Type 0) (x : X) (ys : List X) → P x → AllByRecursion P ys → AllByRecursion P (insert_by le x ys)
  put-all P x [] one all = (one, tt)
  put-all P x (y ∷ ys) one all = by (le x y) (put-all P x ys one all.1) where
    by : (b : Bool) → AllByRecursion P (insert_by le x ys) → AllByRecursion P (cond b (x ∷ y ∷ ys) (y ∷ insert_by le x ys))
    by true more = (one, all)
    by false more = (all.0, more)

  up-to : (x y : X) (ys : List X) → lt y x ≡ false → AllByRecursion (λ z. lt z y ≡ false) ys → AllByRecursion (λ z. lt z x ≡ false) ys
  up-to x y [] h all = tt
  up-to x y (z ∷ zs) h all = (o.chain z y x all.0 h, up-to x y zs h all.1)

  put-rises : (x : X) (ys : List X) → Rises ys → Rises (insert_by le x ys)
  put-rises x [] up = (tt, tt)
  put-rises x (y ∷ ys) up = by (le x y) refl (put-rises x ys up.1) where
    by : (a : Bool) → le x y ≡ a → Rises (insert_by le x ys) → Rises (cond a (x ∷ y ∷ ys) (y ∷ insert_by le x ys))
    by true h more = let less : lt y x ≡ false = false-from (lt y x) (sym (turned x y) ∙ h) in ((less, up-to x y ys less up.0), up)
    by false h more =
        let less : lt y x ≡ true = true-from (lt y x) (sym (turned x y) ∙ h) in
        (put-all (λ z. lt z y ≡ false) x ys (o.one_way y x less) up.0, more)

  pub sorted-rises : (xs : List X) → Rises (sorted_by le xs)
  unfolding sorted_by
  sorted-rises [] = tt
  sorted-rises (x ∷ xs) = put-rises x (sorted_by le xs) (sorted-rises xs)

  all-later : (x : X) (ys : List X) → ((j : ℕ) (d : X) → j < length ys → lt (get_or ys j d) x ≡ false) → AllByRecursion (λ y. lt y x ≡ false) ys
  all-later x [] at = tt
  all-later x (y ∷ ys) at = (at 0 y (omega arith), all-later x ys (λ j d below. at (suc j) d (omega (arith, below))))

  pub rises-far : (xs : List X) → ((i j : ℕ) (d : X) → i ≤ j → j < length xs → lt (get_or xs j d) (get_or xs i d) ≡ false) → Rises xs
  rises-far [] far = tt
  rises-far (x ∷ xs) far =
      (all-later x xs (λ j d below. far 0 (suc j) d (omega arith) (omega (arith, below))), rises-far xs (λ i j d to below. far (suc i) (suc j) d (omega (arith, to)) (omega (arith, below))))

  -- what rises and has the same ties is the list in order
  pub is-sorted : (xs ys : List X) → Rises ys → ((k : X) → filter (tie k) ys ≡ filter (tie k) xs) → ys ≡ sorted_by le xs
  is-sorted xs ys up same = only ys (sorted_by le xs) up (sorted-rises xs) (λ k. same k ∙ sym (sorted-ties k xs))

  -- the items that pass a test, in order
  module _ (p : X → Bool) where
    kept-all : (P : X → Type 0) (ys : List X) → AllByRecursion P ys → AllByRecursion P (filter p ys)
    kept-all P [] all = tt
    kept-all P (y ∷ ys) all = by (p y) (kept-all P ys all.1) where
      by : (b : Bool) → AllByRecursion P (filter p ys) → AllByRecursion P (cond b (y ∷ filter p ys) (filter p ys))
      by true more = (all.0, more)
      by false more = more

    kept-rises : (ys : List X) → Rises ys → Rises (filter p ys)
    kept-rises [] up = tt
    kept-rises (y ∷ ys) up = by (p y) (kept-rises ys up.1) where
      by : (b : Bool) → Rises (filter p ys) → Rises (cond b (y ∷ filter p ys) (filter p ys))
      by true more = (kept-all (λ z. lt z y ≡ false) ys up.0, more)
      by false more = more

    swapped : (q : X → Bool) (ys : List X) → filter q (filter p ys) ≡ filter p (filter q ys)
    swapped q [] = refl
    swapped q (y ∷ ys) = by (p y) refl (q y) refl (swapped q ys) where
      by : (a : Bool) → p y ≡ a → (b : Bool) → q y ≡ b → filter q (filter p ys) ≡ filter p (filter q ys)
          → filter q (cond a (y ∷ filter p ys) (filter p ys)) ≡ filter p (cond b (y ∷ filter q ys) (filter q ys))
      by true e true f more = rw (e, f) (ap (λ (zs : List X). y ∷ zs) more)
      by true e false f more = rw f more
      by false e true f more = rw e more
      by false e false f more = more

    pub sorted-kept : (xs : List X) → filter p (sorted_by le xs) ≡ sorted_by le (filter p xs)
    sorted-kept xs =
        is-sorted (filter p xs) (filter p (sorted_by le xs)) (kept-rises (sorted_by le xs) (sorted-rises xs))
        (λ k. swapped (tie k) (sorted_by le xs) ∙ (ap (filter p) (sorted-ties k xs) ∙ sym (swapped (tie k) xs)))

-- the order of numbers that items have
abbrev pub below : {X : Type 0} → (X → ℕ) → X → X → Bool
below key x y = is_lt (nat_cmp (key x) (key y))

abbrev pub up_to : {X : Type 0} → (X → ℕ) → X → X → Bool
up_to key x y = nat_le (key x) (key y)

pub below-order : {X : Type 0} (key : X → ℕ) → IsStrictWeakOrder (below key)
below-order key = ranks_by nat_cmp_total key

lt-not-le : (a b : ℕ) → b < a → nat_le a b ≡ false
lt-not-le a b less = by (nat_le a b) refl where
  by : (to : Bool) → nat_le a b ≡ to → nat_le a b ≡ false
  by true e = absurd (omega (arith, leb-true a b e, less))
  by false e = e

pub below-turned : (a b : ℕ) → nat_le a b ≡ not (is_lt (nat_cmp b a))
below-turned a b = by (nat_lt b a) refl (b == a) where
  by : (less : Bool) → nat_lt b a ≡ less → (same : Bool) → nat_le a b ≡ not (is_lt (cond less Less (cond same Equal Greater)))
  by true e same = lt-not-le a b (ltb-true b a e)
  by false e true = le-leb a b (ltb-false b a e)
  by false e false = le-leb a b (ltb-false b a e)

-- items sorted by numbers are those in order
pub sorted-by-number : {X : Type 0} (key : X → ℕ) (xs ys : List X) → IsSortedByKey key nat_cmp ys → IsStableByKey key nat_cmp xs ys → ys ≡ sorted_by (up_to key) xs
sorted-by-number key xs ys up stable =
    is-sorted (below key) (up_to key) (below-order key) (λ x y. below-turned (key x) (key y)) xs ys
    (rises-far (below key) (up_to key) (below-order key) (λ x y. below-turned (key x) (key y)) ys (sorted_far (below key) (below-order key) ys up)) stable

-- those of them that pass a test
pub number-kept : {X : Type 0} (key : X → ℕ) (p : X → Bool) (xs : List X) → filter p (sorted_by (up_to key) xs) ≡ sorted_by (up_to key) (filter p xs)
number-kept key p xs = sorted-kept (below key) (up_to key) (below-order key) (λ x y. below-turned (key x) (key y)) p xs
