-- Lists in order: there is one that keeps the order of items that tie.
use Rattle.std.proofs.Common.{◌≡◌, ◌∙◌, ℕ, zero, suc, ◌+◌, Bool, true, false, not, cond, ◌&&◌, List, [], ◌∷◌, get_or, filter, map, Less, Equal, Greater, Ordering, nat_le, refl, sym, ap, subst, arith}
use Rattle.std.proofs.lemmas.Bool.{false≢true}
use Rattle.std.proofs.lemmas.Bool.Decides.{nat_tests}
use Rattle.std.proofs.lemmas.List.Sorted.{ranks_by}
use Rattle.std.specs.Cmp.{IsStrictWeakOrder, IsTotalOrder, nat_cmp_total}
use Rattle.std.specs.List.{AllByRecursion}
use Rattle.std.specs.List.Sorted.{IsSortedBy, IsStableBy, IsSortedByKey, IsStableByKey, ties}
use Rattle.std.specs.Ordering.{is_le, is_lt, nat_cmp, ordering_reverse}
use Rattle.mib_model.specs.Orders.{insert_by, sorted_by, sorted_by_number}

-- one test and then another keep what they keep the other way round
pub filter-swap : {X : Type 0} (p q : X → Bool) (xs : List X) → filter p (filter q xs) ≡ filter q (filter p xs)
filter-swap p q [] = refl
filter-swap {X} p q (x ∷ xs) = go (p x) refl (q x) refl (filter-swap p q xs) where
  go : (a : Bool) → p x ≡ a → (b : Bool) → q x ≡ b → filter p (filter q xs) ≡ filter q (filter p xs) → filter p (cond b (x ∷ filter q xs) (filter q xs)) ≡ filter q (cond a (x ∷ filter p xs) (filter p xs))
  go true e true f h = rw (e, f) (ap (λ (zs : List X). x ∷ zs) h)
  go true e false f h = rw f h
  go false e true f h = rw e h
  go false e false f h = h

neither : (a b : Bool) → a ≡ false → b ≡ false → (not a && not b) ≡ true
neither a b e f = rw (e, f) refl

less-parts : (a b : Bool) → (not a && not b) ≡ true → (a ≡ false) × (b ≡ false)
less-parts true b h = absurd (false≢true h)
less-parts false true h = absurd (false≢true h)
less-parts false false h = (refl, refl)

module _ {X : Type 0} (lt le : X → X → Bool) (order : IsStrictWeakOrder lt) (turned : (x y : X) → le x y ≡ not (lt y x)) where
  -- an item is not above those behind it
  abbrev pub Up : List X → Type 0
  Up [] = Unit {0}
  Up (x ∷ xs) = AllByRecursion (λ y. lt y x ≡ false) xs × Up xs

  never : (x : X) (b : Bool) → lt x x ≡ b → b ≡ false
  never x true e = sym e ∙ order.one_way x x e
  never x false e = refl

  tied-itself : (x : X) → ties lt x x ≡ true
  tied-itself x = let e : lt x x ≡ false = never x (lt x x) refl in neither (lt x x) (lt x x) e e

  -- what is below one item is below those that aren't below that one
  below : (x y z : X) → lt x y ≡ true → lt z y ≡ false → lt x z ≡ true
  below x y z less not_less = go (lt x z) refl where
    go : (b : Bool) → lt x z ≡ b → lt x z ≡ true
    go true e = e
    go false e = absurd (false≢true (sym (order.chain x z y e not_less) ∙ less))

  none-tied : (x y : X) → lt x y ≡ true → (ys : List X) → AllByRecursion (λ z. lt z y ≡ false) ys → filter (ties lt x) ys ≡ []
  none-tied x y less [] all = refl
  none-tied x y less (z ∷ zs) all = let e : lt x z ≡ true = below x y z less all.0 in rw e (none-tied x y less zs all.1)

  none-first : (x y : X) (ys : List X) → lt x y ≡ true → Up (y ∷ ys) → filter (ties lt x) (y ∷ ys) ≡ []
  none-first x y ys less up = rw less (none-tied x y less ys up.0)

  own : (x : X) (xs : List X) → filter (ties lt x) (x ∷ xs) ≡ x ∷ filter (ties lt x) xs
  own x xs = let e = tied-itself x in ap (λ b. cond b (x ∷ filter (ties lt x) xs) (filter (ties lt x) xs)) e

  first-tied : (x y : X) (xs ys : List X) → Up (x ∷ xs) → Up (y ∷ ys) → ((z : X) → filter (ties lt z) (x ∷ xs) ≡ filter (ties lt z) (y ∷ ys)) → ties lt x y ≡ true
  first-tied x y xs ys up higher same = go (lt x y) refl (lt y x) refl where
    go : (a : Bool) → lt x y ≡ a → (b : Bool) → lt y x ≡ b → ties lt x y ≡ true
    go true e b f = absurd (let n = none-first x y ys e higher in let o = own x xs in let s = same x in cc)
    go false e true f = absurd (let n = none-first y x xs f up in let o = own y ys in let s = same y in cc)
    go false e false f = neither (lt x y) (lt y x) e f

  -- two lists in order with the same ties are one
  pub unique : (xs ys : List X) → Up xs → Up ys → ((z : X) → filter (ties lt z) xs ≡ filter (ties lt z) ys) → xs ≡ ys
  unique [] [] up higher same = refl
  unique [] (y ∷ ys) up higher same = absurd (let o = own y ys in let s = same y in cc)
  unique (x ∷ xs) [] up higher same = absurd (let o = own x xs in let s = same x in cc)
  unique (x ∷ xs) (y ∷ ys) up higher same =
      let tied : ties lt x y ≡ true = first-tied x y xs ys up higher same in
      let here : filter (ties lt x) (y ∷ ys) ≡ y ∷ filter (ties lt x) ys = ap (λ b. cond b (y ∷ filter (ties lt x) ys) (filter (ties lt x) ys)) tied in
      let both = sym (own x xs) ∙ (same x ∙ here) in
      let first : x ≡ y = cc in
      let rest : xs ≡ ys = unique xs ys up.1 higher.1 (λ z. behind z (ties lt z x) refl (same z) first) in
      cc where
        behind : (z : X) (b : Bool) → ties lt z x ≡ b → filter (ties lt z) (x ∷ xs) ≡ filter (ties lt z) (y ∷ ys) → x ≡ y → filter (ties lt z) xs ≡ filter (ties lt z) ys
        behind z b e both first = cut b (sym (ap (λ c. cond c (x ∷ filter (ties lt z) xs) (filter (ties lt z) xs)) e) ∙ (both ∙ ap (λ c. cond c (y ∷ filter (ties lt z) ys) (filter (ties lt z) ys)) (ap (ties lt z) (sym first) ∙ e))) where
          cut : (c : Bool) → cond c (x ∷ filter (ties lt z) xs) (filter (ties lt z) xs) ≡ cond c (y ∷ filter (ties lt z) ys) (filter (ties lt z) ys) → filter (ties lt z) xs ≡ filter (ties lt z) ys
          cut true h = cc
          cut false h = h

  -- ---- sorting keeps items that tie as they stand

  module _ (p : X → Bool) (alike : (x y : X) → p x ≡ true → p y ≡ true → lt x y ≡ false) where
    insert-kept : (x : X) (ys : List X) → filter p (insert_by le x ys) ≡ filter p (x ∷ ys)
    insert-kept x [] = refl
    insert-kept x (y ∷ ys) = go (lt y x) refl (p x) refl (p y) refl (insert-kept x ys) where
      go : (b : Bool) → lt y x ≡ b → (c : Bool) → p x ≡ c → (d : Bool) → p y ≡ d → filter p (insert_by le x ys) ≡ filter p (x ∷ ys) → filter p (insert_by le x (y ∷ ys)) ≡ filter p (x ∷ y ∷ ys)
      go false h c e d f others = let before : le x y ≡ true = turned x y ∙ ap not h in rw before refl
      go true h true e true f others = absurd (false≢true (sym (alike y x f e) ∙ h))
      go true h true e false f others = let behind : le x y ≡ false = turned x y ∙ ap not h in rw (behind, f) others
      go true h false e d f others = let behind : le x y ≡ false = turned x y ∙ ap not h in rw (behind, e) (ap (λ zs. cond (p y) (y ∷ zs) zs) (others ∙ rw e refl))

    pub sorted-kept : (xs : List X) → filter p (sorted_by le xs) ≡ filter p xs
    unfolding sorted_by
    sorted-kept [] = refl
    sorted-kept (x ∷ xs) = insert-kept x (sorted_by le xs) ∙ ap (λ zs. cond (p x) (x ∷ zs) zs) (sorted-kept xs)

  -- items that tie with one tie with each other
  tied-alike : (z x y : X) → ties lt z x ≡ true → ties lt z y ≡ true → lt x y ≡ false
  tied-alike z x y h k = order.chain x z y (less-parts (lt z x) (lt x z) h).1 (less-parts (lt z y) (lt y z) k).0

  -- ---- what is sorted is in order

  pub all-insert : (P : X → Type 0) (x : X) (ys : List X) → P x → AllByRecursion P ys → AllByRecursion P (insert_by le x ys)
  all-insert P x [] px all = (px, tt)
  all-insert P x (y ∷ ys) px all = go (le x y) (all-insert P x ys px all.1) where
    go : (b : Bool) → AllByRecursion P (insert_by le x ys) → AllByRecursion P (cond b (x ∷ y ∷ ys) (y ∷ insert_by le x ys))
    go true rest = (px, all)
    go false rest = (all.0, rest)

  weaker : (x y : X) → lt y x ≡ false → (ys : List X) → AllByRecursion (λ z. lt z y ≡ false) ys → AllByRecursion (λ z. lt z x ≡ false) ys
  weaker x y h [] all = tt
  weaker x y h (z ∷ zs) all = (order.chain z y x all.0 h, weaker x y h zs all.1)

  insert-up : (x : X) (ys : List X) → Up ys → Up (insert_by le x ys)
  insert-up x [] up = (tt, tt)
  insert-up x (y ∷ ys) up = go (lt y x) refl (insert-up x ys up.1) where
    put : (b : Bool) → le x y ≡ b → Up (cond b (x ∷ y ∷ ys) (y ∷ insert_by le x ys)) → Up (insert_by le x (y ∷ ys))
    put b e h = rw e h

    go : (b : Bool) → lt y x ≡ b → Up (insert_by le x ys) → Up (insert_by le x (y ∷ ys))
    go false h rest = put true (turned x y ∙ ap not h) ((h, weaker x y h ys up.0), up)
    go true h rest = put false (turned x y ∙ ap not h) (all-insert (λ z. lt z y ≡ false) x ys (order.one_way y x h) up.0, rest)

  pub sorted-up : (xs : List X) → Up (sorted_by le xs)
  unfolding sorted_by
  sorted-up [] = tt
  sorted-up (x ∷ xs) = insert-up x (sorted_by le xs) (sorted-up xs)

  all-filter : (P : X → Type 0) (p : X → Bool) (xs : List X) → AllByRecursion P xs → AllByRecursion P (filter p xs)
  all-filter P p [] all = tt
  all-filter P p (x ∷ xs) all = go (p x) (all-filter P p xs all.1) where
    go : (b : Bool) → AllByRecursion P (filter p xs) → AllByRecursion P (cond b (x ∷ filter p xs) (filter p xs))
    go true rest = (all.0, rest)
    go false rest = rest

  filter-up : (p : X → Bool) (xs : List X) → Up xs → Up (filter p xs)
  filter-up p [] up = tt
  filter-up p (x ∷ xs) up = go (p x) (filter-up p xs up.1) where
    go : (b : Bool) → Up (filter p xs) → Up (cond b (x ∷ filter p xs) (filter p xs))
    go true rest = (all-filter (λ y. lt y x ≡ false) p xs up.0, rest)
    go false rest = rest

  up-from : (xs : List X) → IsSortedBy lt xs → Up xs
  up-from [] sorted = tt
  up-from (x ∷ []) sorted = (tt, tt)
  up-from (x ∷ y ∷ ys) sorted =
      let rest : Up (y ∷ ys) = up-from (y ∷ ys) (λ k d low less.
      let e : suc k + 1 ≡ suc (k + 1) = omega arith in
      subst (λ n. lt (get_or (x ∷ y ∷ ys) n d) (get_or (y ∷ ys) k d) ≡ false) e (sorted (suc k) d (omega arith) (omega (arith, less)))) in
      let e : zero + 1 ≡ suc zero = omega arith in
      let first : lt y x ≡ false = subst (λ n. lt (get_or (x ∷ y ∷ ys) n x) x ≡ false) e (sorted 0 x (omega arith) (omega arith)) in
      ((first, weaker x y first ys rest.0), rest)

  -- what a stable sort gives
  pub stable-sorted : (xs ys : List X) → IsSortedBy lt ys → IsStableBy lt xs ys → ys ≡ sorted_by le xs
  stable-sorted xs ys sorted stable = unique ys (sorted_by le xs) (up-from ys sorted) (sorted-up xs) (λ z. stable z ∙ sym (sorted-kept (ties lt z) (tied-alike z) xs))

  -- the items that pass a test, of sorted ones, are those items sorted
  pub filter-sorted : (p : X → Bool) (xs : List X) → filter p (sorted_by le xs) ≡ sorted_by le (filter p xs)
  filter-sorted p xs = unique (filter p (sorted_by le xs)) (sorted_by le (filter p xs)) (filter-up p (sorted_by le xs) (sorted-up xs)) (sorted-up (filter p xs)) same where
    same : (z : X) → filter (ties lt z) (filter p (sorted_by le xs)) ≡ filter (ties lt z) (sorted_by le (filter p xs))
    same z =
        filter-swap (ties lt z) p (sorted_by le xs) ∙ (ap (filter p) (sorted-kept (ties lt z) (tied-alike z) xs) ∙
        (filter-swap p (ties lt z) xs ∙ sym (sorted-kept (ties lt z) (tied-alike z) (filter p xs))))

turn : (r : Ordering) → is_le (ordering_reverse r) ≡ not (is_lt r)
turn Less = refl
turn Equal = refl
turn Greater = refl

module _ {X K : Type 0} {cmp : K → K → Ordering} (total : IsTotalOrder cmp) (key : X → K) where
  abbrev pub less : X → X → Bool
  less x y = is_lt (cmp (key x) (key y))

  abbrev pub may_stand : X → X → Bool
  may_stand x y = is_le (cmp (key x) (key y))

  pub not-less : (x y : X) → may_stand x y ≡ not (less y x)
  not-less x y = ap is_le (total.antisymm (key x) (key y)) ∙ turn (cmp (key y) (key x))

  -- what a stable sort by a key gives
  pub sorted-by-key : (xs ys : List X) → IsSortedByKey key cmp ys → IsStableByKey key cmp xs ys → ys ≡ sorted_by may_stand xs
  sorted-by-key = stable-sorted less may_stand (ranks_by total key) not-less

-- items by a number, as by the order of numbers
pub by-number : {X : Type 0} (number : X → ℕ) (xs : List X) → sorted_by (λ x y. is_le (nat_cmp (number x) (number y))) xs ≡ sorted_by_number number xs
by-number number xs = λ i. sorted_by (λ x y. is_le-nat_cmp (number x) (number y) i) xs where
  is_le-nat_cmp : (a b : ℕ) → is_le (nat_cmp a b) ≡ nat_le a b
  is_le-nat_cmp a b = grind (arith, nat_tests)

-- the items that pass a test, of those by a number, are those items by the number
pub filter-by-number : {X : Type 0} (number : X → ℕ) (p : X → Bool) (xs : List X) → filter p (sorted_by_number number xs) ≡ sorted_by_number number (filter p xs)
filter-by-number number p xs =
    ap (filter p) (sym (by-number number xs)) ∙
    (filter-sorted (less nat_cmp_total number) (may_stand nat_cmp_total number) (ranks_by nat_cmp_total number) (not-less nat_cmp_total number) p xs ∙ by-number number (filter p xs))

-- parts in order, where the items are put in order by them
module _ {A B : Type 0} (part : A → B) (before : B → B → Bool) where
  map-insert : (x : A) (ys : List A) → map part (insert_by (λ x y. before (part x) (part y)) x ys) ≡ insert_by before (part x) (map part ys)
  map-insert x [] = refl
  map-insert x (y ∷ ys) = go (before (part x) (part y)) (map-insert x ys) where
    go : (b : Bool) → map part (insert_by (λ x y. before (part x) (part y)) x ys) ≡ insert_by before (part x) (map part ys)
        → map part (cond b (x ∷ y ∷ ys) (y ∷ insert_by (λ x y. before (part x) (part y)) x ys)) ≡ cond b (part x ∷ part y ∷ map part ys) (part y ∷ insert_by before (part x) (map part ys))
    go true rest = refl
    go false rest = ap (λ zs. part y ∷ zs) rest

  pub map-sorted : (xs : List A) → map part (sorted_by (λ x y. before (part x) (part y)) xs) ≡ sorted_by before (map part xs)
  unfolding sorted_by
  map-sorted [] = refl
  map-sorted (x ∷ xs) = map-insert x (sorted_by (λ x y. before (part x) (part y)) xs) ∙ ap (insert_by before (part x)) (map-sorted xs)
