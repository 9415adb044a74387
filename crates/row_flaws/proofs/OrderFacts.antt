-- Lists in order by a number of their items: there is one that keeps the order of equal ones.
use Rattle.std.proofs.Common.{◌≡◌, ℕ, zero, suc, ◌<◌, ◌≤◌, inl, inr, Bool, true, false, not, cond, ◌&&◌, List, [], ◌∷◌, length, get_or, filter, refl, sym, ap, ◌∙◌, nat_eq, nat_le, arith}
use Rattle.std.proofs.lemmas.Bool.{eqb-true, eq-eqb, ne_eqb, leb-true, leb-false, cases_order}
use Rattle.std.proofs.lemmas.Bool.Decides.{nat_tests}
use Rattle.std.proofs.lemmas.List.Elements.{filter_agree}
use Rattle.std.proofs.lemmas.List.Kept.{IsNonDecreasingBy-filter}
use Rattle.std.specs.List.Sorted.{IsNonDecreasingBy, IsPartitionPoint, IsStableByKey, ties}
use Rattle.std.specs.Ordering.{is_lt, nat_cmp}
use Rattle.mib_model.specs.Orders.{insert_by, sorted_by}

-- how many pass a test that the first ones alone pass
pub count-parted : {X : Type 0} (p : X → Bool) (xs : List X) (i : ℕ) → i ≤ length xs → IsPartitionPoint (λ y. p y ≡ true) (λ y. p y ≡ false) xs i → i ≡ length (filter p xs)
count-parted p [] i within parted = omega arith
count-parted p (x ∷ xs) zero within parted =
    let e : p x ≡ false = parted.1 0 x (omega arith) (omega arith) in
    let others : 0 ≡ length (filter p xs) = count-parted p xs 0 (omega arith) ((λ k d a b. absurd (omega (arith, a, b))), (λ k d a b. parted.1 (suc k) d (omega arith) (omega (arith, b)))) in
    rw e others
count-parted p (x ∷ xs) (suc i) within parted =
    let e : p x ≡ true = parted.0 0 x (omega arith) (omega arith) in
    let others : i ≡ length (filter p xs) = count-parted p xs i (omega (arith, within)) ((λ k d a b. parted.0 (suc k) d (omega arith) (omega (arith, b))), (λ k d a b. parted.1 (suc k) d (omega (arith, a)) (omega (arith, b)))) in
    rw e (ap suc others)

filter-swap : {X : Type 0} (p q : X → Bool) (xs : List X) → filter p (filter q xs) ≡ filter q (filter p xs)
filter-swap p q [] = refl
filter-swap {X} p q (x ∷ xs) = go (p x) refl (q x) refl (filter-swap p q xs) where
  go : (a : Bool) → p x ≡ a → (b : Bool) → q x ≡ b → filter p (filter q xs) ≡ filter q (filter p xs) → filter p (cond b (x ∷ filter q xs) (filter q xs)) ≡ filter q (cond a (x ∷ filter p xs) (filter p xs))
  go true e true f h = rw (e, f) (ap (λ (zs : List X). x ∷ zs) h)
  go true e false f h = rw f h
  go false e true f h = rw e h
  go false e false f h = h

-- two numbers that tie are the same
number-ties : (a b : ℕ) → (not (is_lt (nat_cmp a b)) && not (is_lt (nat_cmp b a))) ≡ nat_eq b a
number-ties a b = grind (arith, nat_tests)

module _ {X : Type 0} (n : X → ℕ) where
  abbrev pub Rises : List X → Type 0
  Rises xs = IsNonDecreasingBy n xs

  abbrev pub has : ℕ → X → Bool
  has k x = nat_eq (n x) k

  abbrev pub le : X → X → Bool
  le x y = nat_le (n x) (n y)

  tail-rises : (x : X) (xs : List X) → Rises (x ∷ xs) → Rises xs
  tail-rises x xs up i j d a b = up (suc i) (suc j) d (omega (arith, a)) (omega (arith, b))

  cons-rises : (x : X) (xs : List X) → ((d : X) → 0 < length xs → n x ≤ n (get_or xs 0 d)) → Rises xs → Rises (x ∷ xs)
  cons-rises x xs first up zero zero d a b = omega arith
  cons-rises x xs first up zero (suc j) d a b =
      let head = first d (omega (arith, b)) in
      let later = up 0 j d (omega arith) (omega (arith, b)) in
      omega (arith, head, later)
  cons-rises x xs first up (suc i) zero d a b = absurd (omega (arith, a))
  cons-rises x xs first up (suc i) (suc j) d a b = up i j d (omega (arith, a)) (omega (arith, b))

  -- numbers above one are not that one
  none-lower : (k : ℕ) (xs : List X) → ((i : ℕ) (d : X) → i < length xs → k < n (get_or xs i d)) → filter (has k) xs ≡ []
  none-lower k [] above = refl
  none-lower k (x ∷ xs) above =
      let e : nat_eq (n x) k ≡ false = ne_eqb (n x) k (λ q. let l = above 0 x (omega arith) in absurd (omega (arith, q, l))) in
      let others = none-lower k xs (λ i d b. above (suc i) d (omega (arith, b))) in
      rw e others

  none-first : (k : ℕ) (y : X) (ys : List X) → Rises (y ∷ ys) → k < n y → filter (has k) (y ∷ ys) ≡ []
  none-first k y ys up below = none-lower k (y ∷ ys) (λ i d b. let l = up 0 i d (omega arith) b in omega (arith, below, l))

  own : (x : X) (xs : List X) → filter (has (n x)) (x ∷ xs) ≡ x ∷ filter (has (n x)) xs
  own x xs = let e : nat_eq (n x) (n x) ≡ true = eq-eqb (n x) (n x) refl in rw e refl

  same-first : (x y : X) (xs ys : List X) → Rises (x ∷ xs) → Rises (y ∷ ys) → ((k : ℕ) → filter (has k) (x ∷ xs) ≡ filter (has k) (y ∷ ys)) → n x ≡ n y
  same-first x y xs ys up higher same = elim (cases_order (n x) (n y)) [
    | inl e ↦ e
    | inr f ↦ elim f [
      | inl l ↦ absurd (let e = none-first (n x) y ys higher l in let o = own x xs in let s = same (n x) in cc)
      | inr l ↦ absurd (let e = none-first (n y) x xs up l in let o = own y ys in let s = same (n y) in cc)
    ]
  ]

  -- two lists in order that have the same items of each number are one
  pub unique : (xs ys : List X) → Rises xs → Rises ys → ((k : ℕ) → filter (has k) xs ≡ filter (has k) ys) → xs ≡ ys
  unique [] [] up higher same = refl
  unique [] (y ∷ ys) up higher same = absurd (let o = own y ys in let s = same (n y) in cc)
  unique (x ∷ xs) [] up higher same = absurd (let o = own x xs in let s = same (n x) in cc)
  unique (x ∷ xs) (y ∷ ys) up higher same =
      let firsts : x ∷ filter (has (n x)) xs ≡ y ∷ filter (has (n x)) ys =
      sym (own x xs) ∙ (same (n x) ∙ (ap (λ k. filter (has k) (y ∷ ys)) number ∙ (own y ys ∙ ap (λ k. y ∷ filter (has k) ys) (sym number)))) in
      let first : x ≡ y = cc in
      let rest : xs ≡ ys = unique xs ys (tail-rises x xs up) (tail-rises y ys higher) (λ k. behind k (nat_eq (n x) k) refl (same k) first) in
      cc where
        number : n x ≡ n y
        number = same-first x y xs ys up higher same

        behind : (k : ℕ) (b : Bool) → nat_eq (n x) k ≡ b → filter (has k) (x ∷ xs) ≡ filter (has k) (y ∷ ys) → x ≡ y → filter (has k) xs ≡ filter (has k) ys
        behind k true e both first = let f : nat_eq (n y) k ≡ true = ap (λ m. nat_eq m k) (sym number) ∙ e in let h = rw (e, f) at both in cc
        behind k false e both first = let f : nat_eq (n y) k ≡ false = ap (λ m. nat_eq m k) (sym number) ∙ e in rw (e, f) at both

  -- an item put in its place
  insert-has : (k : ℕ) (x : X) (ys : List X) → filter (has k) (insert_by le x ys) ≡ filter (has k) (x ∷ ys)
  insert-has k x [] = refl
  insert-has k x (y ∷ ys) = go (nat_le (n x) (n y)) refl (nat_eq (n x) k) refl (nat_eq (n y) k) refl (insert-has k x ys) where
    go : (b : Bool) → nat_le (n x) (n y) ≡ b → (c : Bool) → nat_eq (n x) k ≡ c → (d : Bool) → nat_eq (n y) k ≡ d → filter (has k) (insert_by le x ys) ≡ filter (has k) (x ∷ ys)
        → filter (has k) (cond b (x ∷ y ∷ ys) (y ∷ insert_by le x ys)) ≡ filter (has k) (x ∷ y ∷ ys)
    go true h c e d f others = refl
    go false h true e true f others =
        absurd (let l = leb-false (n x) (n y) h in let i = eqb-true (n x) k e in let j = eqb-true (n y) k f in omega (arith, l, i, j))
    go false h true e false f others = rw (e, f) (rw e at others)
    go false h false e d f others = rw e (ap (λ zs. cond (nat_eq (n y) k) (y ∷ zs) zs) (rw e at others))

  sorted-has : (k : ℕ) (xs : List X) → filter (has k) (sorted_by le xs) ≡ filter (has k) xs
  unfolding sorted_by
  sorted-has k [] = refl
  sorted-has k (x ∷ xs) = insert-has k x (sorted_by le xs) ∙ ap (λ zs. cond (nat_eq (n x) k) (x ∷ zs) zs) (sorted-has k xs)

  insert-rises : (x : X) (ys : List X) → Rises ys → Rises (insert_by le x ys)
  insert-rises x [] up = cons-rises x [] (λ d a. absurd (omega (arith, a))) up
  insert-rises x (y ∷ ys) up = go (nat_le (n x) (n y)) refl (insert-rises x ys (tail-rises y ys up)) where
    first : (zs : List X) → n y ≤ n x → Rises (y ∷ zs) → (d : X) → n y ≤ n (get_or (insert_by le x zs) 0 d)
    first [] l higher d = l
    first (z ∷ zs) l higher d = put (nat_le (n x) (n z)) where
      put : (b : Bool) → n y ≤ n (get_or (cond b (x ∷ z ∷ zs) (z ∷ insert_by le x zs)) 0 d)
      put true = l
      put false = higher 0 1 d (omega arith) (omega arith)

    go : (b : Bool) → nat_le (n x) (n y) ≡ b → Rises (insert_by le x ys) → Rises (cond b (x ∷ y ∷ ys) (y ∷ insert_by le x ys))
    go true h rest = cons-rises x (y ∷ ys) (λ d a. leb-true (n x) (n y) h) up
    go false h rest = cons-rises y (insert_by le x ys) (λ d a. first ys (let l = leb-false (n x) (n y) h in omega (arith, l)) up d) rest

  pub sorted-rises : (xs : List X) → Rises (sorted_by le xs)
  unfolding sorted_by
  sorted-rises [] = λ i j d a b. absurd (omega (arith, b))
  sorted-rises (x ∷ xs) = insert-rises x (sorted_by le xs) (sorted-rises xs)

  -- the items that pass a test, of a list in order, are those items in order
  pub sorted-filter : (some : ℕ → X) → ((k : ℕ) → n (some k) ≡ k) → (p : X → Bool) (xs ys : List X) → Rises ys → IsStableByKey n nat_cmp xs ys → filter p ys ≡ sorted_by le (filter p xs)
  sorted-filter some number p xs ys up stable = unique (filter p ys) (sorted_by le (filter p xs)) (IsNonDecreasingBy-filter n p ys up) (sorted-rises (filter p xs)) same where
    same : (k : ℕ) → filter (has k) (filter p ys) ≡ filter (has k) (sorted_by le (filter p xs))
    same k = filter-swap (has k) p ys ∙ (ap (filter p) (kept k) ∙ (filter-swap p (has k) xs ∙ sym (sorted-has k (filter p xs)))) where
      kept : (k : ℕ) → filter (has k) ys ≡ filter (has k) xs
      kept k = sym (filter_agree _ (has k) alike ys) ∙ (stable (some k) ∙ filter_agree _ (has k) alike xs) where
        alike : (y : X) → ties (λ x y. is_lt (nat_cmp (n x) (n y))) (some k) y ≡ has k y
        alike y = number-ties (n (some k)) (n y) ∙ ap (nat_eq (n y)) (number k)
