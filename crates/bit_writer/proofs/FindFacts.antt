-- The first of a range that passes a test.
use Rattle.std.proofs.Common.{◌≡◌, ◌∙◌, ℕ, zero, suc, ◌+◌, ◌<◌, ◌≤◌, Bool, true, false, cond, List, [], ◌∷◌, Option, Some, None, refl, ap, arith}
use Rattle.std.specs.Prelude.{◌==◌}
use Rattle.std.proofs.lemmas.Bool.{eqb-true, eqb-false}
use Rattle.std.specs.List.{find, range_with_len}

pub same-find : (p q : ℕ → Bool) (xs : List ℕ) → ((k : ℕ) → p k ≡ q k) → find p xs ≡ find q xs
same-find p q [] same = refl
same-find p q (x ∷ xs) same = ap (λ (b : Bool). cond b (Some x) (find p xs)) (same x) ∙ ap (λ (o : Option ℕ). cond (q x) (Some x) o) (same-find p q xs same)

module _ (p : ℕ → Bool) where
  -- behind numbers that don't pass
  pub find-behind : (a n m : ℕ) → ((k : ℕ) → a ≤ k → k < a + n → p k ≡ false) → find p (range_with_len a (n + m)) ≡ find p (range_with_len (a + n) m)
  find-behind a zero m none =
      let same : a ≡ a + 0 = omega arith in
      let all : 0 + m ≡ m = omega arith in
      ap (λ (n : ℕ). find p (range_with_len a n)) all ∙ ap (λ (k : ℕ). find p (range_with_len k m)) same
  find-behind a (suc n) m none =
      let next : a + 1 + n ≡ a + suc n = omega arith in
      let more : suc n + m ≡ suc (n + m) = omega arith in
      ap (λ (k : ℕ). find p (range_with_len a k)) more
      ∙ (ap (λ (b : Bool). cond b (Some a) (find p (range_with_len (a + 1) (n + m)))) (none a (omega arith) (omega arith))
      ∙ (find-behind (a + 1) n m (λ k low high. none k (omega (arith, low)) (omega (arith, high)))
      ∙ ap (λ (k : ℕ). find p (range_with_len k m)) next))

  -- one that passes
  pub find-here : (a m : ℕ) → p a ≡ true → find p (range_with_len a (suc m)) ≡ Some a
  find-here a m passes = ap (λ (b : Bool). cond b (Some a) (find p (range_with_len (a + 1) m))) passes

  -- none passes where none is found
  pub find-none : (a n : ℕ) → find p (range_with_len a n) ≡ None → (k : ℕ) → a ≤ k → k < a + n → p k ≡ false
  find-none a zero none k low high = absurd (omega (arith, low, high))
  find-none a (suc n) none k low high = go (p a) refl none (λ rest. find-none (a + 1) n rest k) where
    go : (b : Bool) → p a ≡ b → cond b (Some a) (find p (range_with_len (a + 1) n)) ≡ None
        → (find p (range_with_len (a + 1) n) ≡ None → a + 1 ≤ k → k < a + 1 + n → p k ≡ false) → p k ≡ false
    go true h is rest = absurd (cc is)
    go false h is rest = first (k == a) refl where
      first : (b : Bool) → (k == a) ≡ b → p k ≡ false
      first true same = ap p (eqb-true k a same) ∙ h
      first false apart = let other = eqb-false k a apart in rest is (omega (arith, low, other)) (omega (arith, high))

  -- what is found is found in a longer range
  pub find-longer : (a n m x : ℕ) → find p (range_with_len a n) ≡ Some x → find p (range_with_len a (n + m)) ≡ Some x
  find-longer a zero m x is = absurd (cc is)
  find-longer a (suc n) m x is =
      let more : suc n + m ≡ suc (n + m) = omega arith in
      ap (λ (k : ℕ). find p (range_with_len a k)) more ∙ go (p a) is (find-longer (a + 1) n m x) where
        go : (b : Bool) → cond b (Some a) (find p (range_with_len (a + 1) n)) ≡ Some x → (find p (range_with_len (a + 1) n) ≡ Some x → find p (range_with_len (a + 1) (n + m)) ≡ Some x)
            → cond b (Some a) (find p (range_with_len (a + 1) (n + m))) ≡ Some x
        go true is rest = is
        go false is rest = rest is
