-- Numbers that are put in order.
use Rattle.std.proofs.Common.{◌≡◌, ℕ, suc, nat_le, Bool, true, false, cond, List, [], ◌∷◌, ◌++◌, filter, length, refl, sym, ap, ◌∙◌, arith}
use Rattle.std.proofs.lemmas.Bool.{leb-false, leb-true}
use Rattle.std.specs.List.Sorted.{IsNonDecreasingBy, IsStableByKey}
use Rattle.std.specs.Ordering.{nat_cmp}
use Rattle.row_flaws.proofs.OrderFacts.{sorted-filter}
use Rattle.mib_model.specs.Orders.{insert_by, sorted_by, sorted_by_number}

-- numbers in order
abbrev pub in_order : List ℕ → List ℕ
in_order = sorted_by_number (λ n. n)

-- a number put among numbers in order
abbrev pub put : ℕ → List ℕ → List ℕ
put = insert_by (λ x y. nat_le x y)

keep-all : (ns : List ℕ) → filter (λ n. true) ns ≡ ns
keep-all [] = refl
keep-all (n ∷ ns) = ap (λ (ms : List ℕ). n ∷ ms) (keep-all ns)

-- what std's sort makes of numbers
pub sorted-numbers : (ns ordered : List ℕ) → IsNonDecreasingBy (λ n. n) ordered → IsStableByKey (λ n. n) nat_cmp ns ordered → ordered ≡ sorted_by_number (λ n. n) ns
sorted-numbers ns ordered rises stable =
    sym (keep-all ordered) ∙ sorted-filter (λ (n : ℕ). n) (λ k. k) (λ k. refl) (λ n. true) ns ordered rises stable ∙ ap (sorted_by_number (λ (n : ℕ). n)) (keep-all ns)

module _ {A : Type 0} (before : A → A → Bool) where
  pub long-insert : (x : A) (ys : List A) → length (insert_by before x ys) ≡ suc (length ys)
  long-insert x [] = refl
  long-insert x (y ∷ ys) = go (before x y) (long-insert x ys) where
    go : (b : Bool) → length (insert_by before x ys) ≡ suc (length ys) → length (cond b (x ∷ y ∷ ys) (y ∷ insert_by before x ys)) ≡ suc (suc (length ys))
    go true others = refl
    go false others = ap suc others

  -- as many as before
  pub long-sorted : (xs : List A) → length (sorted_by before xs) ≡ length xs
  unfolding sorted_by
  long-sorted [] = refl
  long-sorted (x ∷ xs) = long-insert x (sorted_by before xs) ∙ ap suc (long-sorted xs)

-- what is above a number is above those up to it
above-between : (x n y : ℕ) → nat_le x n ≡ false → nat_le y n ≡ true → nat_le x y ≡ false
above-between x n y above upto = go (nat_le x y) refl where
  go : (b : Bool) → nat_le x y ≡ b → nat_le x y ≡ false
  go true e = absurd (omega (arith, leb-true x y e, leb-true y n upto, leb-false x n above))
  go false e = e

-- two numbers in front of others, the lesser first
two : (x y : ℕ) (ns : List ℕ) (a : Bool) → nat_le x y ≡ a → (b : Bool) → nat_le y x ≡ b → cond a (x ∷ y ∷ ns) (y ∷ x ∷ ns) ≡ cond b (y ∷ x ∷ ns) (x ∷ y ∷ ns)
two x y ns true is_a true is_b = let e : x ≡ y = omega (arith, leb-true x y is_a, leb-true y x is_b) in ap (λ z. z ∷ y ∷ ns) e ∙ ap (λ z. y ∷ z ∷ ns) (sym e)
two x y ns true is_a false is_b = refl
two x y ns false is_a true is_b = refl
two x y ns false is_a false is_b = absurd (omega (arith, leb-false x y is_a, leb-false y x is_b))

-- two numbers may be put one after the other either way
pub put-swap : (x y : ℕ) (ns : List ℕ) → put x (put y ns) ≡ put y (put x ns)
put-swap x y [] = two x y [] (nat_le x y) refl (nat_le y x) refl
put-swap x y (n ∷ ns) = go (nat_le x n) refl (nat_le y n) refl (put-swap x y ns) where
  go : (p : Bool) → nat_le x n ≡ p → (q : Bool) → nat_le y n ≡ q → put x (put y ns) ≡ put y (put x ns)
      → put x (cond q (y ∷ n ∷ ns) (n ∷ put y ns)) ≡ put y (cond p (x ∷ n ∷ ns) (n ∷ put x ns))
  go true is_p true is_q others = rw (is_p, is_q) (two x y (n ∷ ns) (nat_le x y) refl (nat_le y x) refl)
  go false is_p true is_q others =
      let above : nat_le x y ≡ false = above-between x n y is_p is_q in
      rw (above, is_p, is_q) refl
  go true is_p false is_q others =
      let above : nat_le y x ≡ false = above-between y n x is_q is_p in
      rw (above, is_p, is_q) refl
  go false is_p false is_q others = rw (is_p, is_q) (ap (λ (ms : List ℕ). n ∷ ms) others)

-- behind numbers is one more: it is put among them
pub sorted-more : (ns : List ℕ) (x : ℕ) → in_order (ns ++ x ∷ []) ≡ put x (in_order ns)
unfolding sorted_by
sorted-more [] x = refl
sorted-more (n ∷ ns) x = ap (put n) (sorted-more ns x) ∙ put-swap n x (in_order ns)
