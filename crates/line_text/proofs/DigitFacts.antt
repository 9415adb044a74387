-- The digits of engineering values with four decimals at most.
use Rattle.std.proofs.Common.{◌≡◌, ℕ, zero, suc, ◌+◌, ◌*◌, ◌/◌, ◌%◌, ◌^◌, ◌<◌, ◌≤◌, ◌-◌, ℤ, Bool, true, false, List, [], ◌++◌, take, inl, inr, ◌⊎◌, int_lt, refl, sym, ap, ◌∙◌, append_assoc, arith}
use Rattle.std.specs.Prelude.{pos, nat_abs, nat_lt, nat_le, ◌&&◌, codes, decimal}
use Rattle.std.proofs.lemmas.Bool.{cases_Bool}
use Rattle.std.proofs.lemmas.List.{append-nil}
use Rattle.std.proofs.lemmas.Bool.Decides.{nat_tests}
use Rattle.std.proofs.lemmas.Int.{ints}
use Rattle.mib_model.specs.Counts.{count_text, half, pointed, signed_pointed}
use Rattle.mib_model.specs.Decimals.{with_sign}
use Rattle.mib_model.specs.Digits.{decimal_of_width}
use Rattle.line_text.specs.DigitTexts.{minus_text, behind_text, digits_text}
use Rattle.line_text.specs.ShortTexts.{four_digits}
use Rattle.line_text.proofs.ShortFacts.{decimal-one, decimal-two, decimal-three, decimal-four}

-- a number is below another or not
below-or : (n k : ℕ) → (n < k) ⊎ (k ≤ n)
below-or n k = elim (cases_Bool (nat_lt n k)) [
  | inl less ↦ inl (grind (arith, nat_tests, less))
  | inr more ↦ inr (grind (arith, nat_tests, more))
]

width-one : (b : ℕ) → b < 10000 → decimal_of_width 1 (b / 1000) ≡ take 1 (four_digits b)
width-one b few = let same : b / 1000 % 10 ≡ b / 1000 = omega arith in rw (decimal-one (b / 1000) (omega arith), same) refl

width-two : (b : ℕ) → b < 10000 → decimal_of_width 2 (b / 100) ≡ take 2 (four_digits b)
width-two b few = elim (below-or (b / 100) 10) [
  | inl less ↦ let none : b / 1000 ≡ 0 = omega (arith, less) in rw (decimal-one (b / 100) less, none) refl
  | inr more ↦ let tens : b / 100 / 10 % 10 ≡ b / 1000 = omega arith in rw (decimal-two (b / 100) more (omega arith), tens) refl
]

width-three : (b : ℕ) → b < 10000 → decimal_of_width 3 (b / 10) ≡ take 3 (four_digits b)
width-three b few = elim (below-or (b / 10) 10) [
  | inl less ↦
      let none : b / 1000 ≡ 0 = omega (arith, less) in
      let zeros : b / 100 % 10 ≡ 0 = omega (arith, less) in
      rw (decimal-one (b / 10) less, none, zeros) refl
  | inr more ↦ elim (below-or (b / 10) 100) [
    | inl less ↦
        let none : b / 1000 ≡ 0 = omega (arith, less) in
        let tens : b / 10 / 10 % 10 ≡ b / 100 % 10 = omega arith in
        rw (decimal-two (b / 10) more less, tens, none) refl
    | inr high ↦
        let hundreds : b / 10 / 100 % 10 ≡ b / 1000 = omega arith in
        let tens : b / 10 / 10 % 10 ≡ b / 100 % 10 = omega arith in
        rw (decimal-three (b / 10) high (omega arith), hundreds, tens) refl
  ]
]

width-four : (b : ℕ) → b < 10000 → decimal_of_width 4 b ≡ take 4 (four_digits b)
width-four b few = elim (below-or b 10) [
  | inl less ↦
      let none : b / 1000 ≡ 0 = omega (arith, less) in
      let zeros : b / 100 % 10 ≡ 0 = omega (arith, less) in
      let tens : b / 10 % 10 ≡ 0 = omega (arith, less) in
      rw (decimal-one b less, none, zeros, tens) refl
  | inr more ↦ elim (below-or b 100) [
    | inl less ↦
        let none : b / 1000 ≡ 0 = omega (arith, less) in
        let zeros : b / 100 % 10 ≡ 0 = omega (arith, less) in
        rw (decimal-two b more less, none, zeros) refl
    | inr high ↦ elim (below-or b 1000) [
      | inl less ↦ let none : b / 1000 ≡ 0 = omega (arith, less) in rw (decimal-three b high less, none) refl
      | inr top ↦ rw (decimal-four b top few) refl
    ]
  ]
]

not-below : (n : ℕ) → int_lt (pos n) (pos 0) ≡ false
not-below n = grind (arith, ints)

-- a number's text by its sign and its magnitude
signed-text : (d : ℕ) (minus : Bool) (n : ℕ) → signed_pointed d (with_sign minus n) ≡ minus_text (minus && nat_lt 0 n) ++ pointed d n
signed-text d false n = rw (not-below n) refl
signed-text d true zero = refl
signed-text d true (suc n) = let some : nat_lt 0 (suc n) ≡ true = grind (arith, nat_tests) in rw some refl

-- a number's text by its parts
digits-parts : (d : ℕ) (minus some : Bool) (n whole behind : ℕ) → nat_lt 0 n ≡ some → n / 10 ^ (d + 1) ≡ whole → decimal_of_width (d + 1) (n % 10 ^ (d + 1)) ≡ take (suc d) (four_digits behind)
    → (minus_text (minus && some) ++ decimal whole) ++ (codes "." ++ take (suc d) (four_digits behind)) ≡ signed_pointed (suc d) (with_sign minus n)
digits-parts d minus some n whole behind a b c =
    let sign = minus_text (minus && some) in
    let text = take (suc d) (four_digits behind) in
    append_assoc sign (decimal whole) (codes "." ++ text)
    ∙ (ap (λ (rest : List ℕ). sign ++ rest) (sym (append_assoc (decimal whole) (codes ".") text))
    ∙ (ap (λ (rest : List ℕ). sign ++ ((decimal whole ++ codes ".") ++ rest)) (sym c)
    ∙ (ap (λ (k : ℕ). sign ++ ((decimal k ++ codes ".") ++ decimal_of_width (d + 1) (n % 10 ^ (d + 1)))) (sym b)
    ∙ (ap (λ (t : Bool). minus_text (minus && t) ++ pointed (suc d) n) (sym a) ∙ sym (signed-text (suc d) minus n)))))

-- two tests that agree
same-tests : (n half m : ℕ) → (half ≤ m → 0 < n) → (m < half → n ≡ 0) → nat_lt 0 n ≡ nat_le half m
same-tests n half m up down = elim (below-or m half) [
  | inl less ↦ let none : n ≡ 0 = down less in grind (arith, nat_tests, less, none)
  | inr more ↦ let some : 0 < n = up more in grind (arith, nat_tests, more, some)
]

module _ (count : ℤ) where
  abbrev m : ℕ
  m = nat_abs count

  abbrev digits : ℕ → ℕ → List ℕ
  digits half d = digits_text (record { minus = int_lt count (pos 0) && nat_le half (nat_abs count); whole = (nat_abs count + half) / 100000000 / 10000; behind = (nat_abs count + half) / 100000000 % 10000 }) d

  digits0 : digits 500000000000 0 ≡ count_text count 0
  unfolding count_text half
  digits0 =
      let n : ℕ = (2 * m + 10 ^ 12) / (2 * 10 ^ 12) in
      let w : ℕ = (m + 500000000000) / 100000000 / 10000 in
      let minus : Bool = int_lt count (pos 0) in
      let some : nat_lt 0 n ≡ nat_le 500000000000 m = same-tests n 500000000000 m (λ more. omega (arith, more)) (λ less. omega (arith, less)) in
      let whole : n ≡ w = omega arith in
      append-nil (minus_text (minus && nat_le 500000000000 m) ++ decimal w)
      ∙ (ap (λ (k : ℕ). minus_text (minus && nat_le 500000000000 m) ++ decimal k) (sym whole)
      ∙ (ap (λ (b : Bool). minus_text (minus && b) ++ decimal n) (sym some) ∙ sym (signed-text 0 minus n)))

  digits1 : digits 50000000000 1 ≡ count_text count 1
  unfolding count_text half
  digits1 =
      let n : ℕ = (2 * m + 10 ^ 11) / (2 * 10 ^ 11) in
      let b : ℕ = (m + 50000000000) / 100000000 % 10000 in
      let some : nat_lt 0 n ≡ nat_le 50000000000 m = same-tests n 50000000000 m (λ more. omega (arith, more)) (λ less. omega (arith, less)) in
      let whole : n / 10 ^ (0 + 1) ≡ (m + 50000000000) / 100000000 / 10000 = omega arith in
      let rest : n % 10 ^ (0 + 1) ≡ b / 1000 = omega arith in
      digits-parts 0 (int_lt count (pos 0)) (nat_le 50000000000 m) n ((m + 50000000000) / 100000000 / 10000) b some whole (ap (decimal_of_width 1) rest ∙ width-one b (omega arith))

  digits2 : digits 5000000000 2 ≡ count_text count 2
  unfolding count_text half
  digits2 =
      let n : ℕ = (2 * m + 10 ^ 10) / (2 * 10 ^ 10) in
      let b : ℕ = (m + 5000000000) / 100000000 % 10000 in
      let some : nat_lt 0 n ≡ nat_le 5000000000 m = same-tests n 5000000000 m (λ more. omega (arith, more)) (λ less. omega (arith, less)) in
      let whole : n / 10 ^ (1 + 1) ≡ (m + 5000000000) / 100000000 / 10000 = omega arith in
      let rest : n % 10 ^ (1 + 1) ≡ b / 100 = omega arith in
      digits-parts 1 (int_lt count (pos 0)) (nat_le 5000000000 m) n ((m + 5000000000) / 100000000 / 10000) b some whole (ap (decimal_of_width 2) rest ∙ width-two b (omega arith))

  digits3 : digits 500000000 3 ≡ count_text count 3
  unfolding count_text half
  digits3 =
      let n : ℕ = (2 * m + 10 ^ 9) / (2 * 10 ^ 9) in
      let b : ℕ = (m + 500000000) / 100000000 % 10000 in
      let some : nat_lt 0 n ≡ nat_le 500000000 m = same-tests n 500000000 m (λ more. omega (arith, more)) (λ less. omega (arith, less)) in
      let whole : n / 10 ^ (2 + 1) ≡ (m + 500000000) / 100000000 / 10000 = omega arith in
      let rest : n % 10 ^ (2 + 1) ≡ b / 10 = omega arith in
      digits-parts 2 (int_lt count (pos 0)) (nat_le 500000000 m) n ((m + 500000000) / 100000000 / 10000) b some whole (ap (decimal_of_width 3) rest ∙ width-three b (omega arith))

  digits4 : digits 50000000 4 ≡ count_text count 4
  unfolding count_text half
  digits4 =
      let n : ℕ = (2 * m + 10 ^ 8) / (2 * 10 ^ 8) in
      let b : ℕ = (m + 50000000) / 100000000 % 10000 in
      let some : nat_lt 0 n ≡ nat_le 50000000 m = same-tests n 50000000 m (λ more. omega (arith, more)) (λ less. omega (arith, less)) in
      let whole : n / 10 ^ (3 + 1) ≡ (m + 50000000) / 100000000 / 10000 = omega arith in
      let rest : n % 10 ^ (3 + 1) ≡ b = omega arith in
      digits-parts 3 (int_lt count (pos 0)) (nat_le 50000000 m) n ((m + 50000000) / 100000000 / 10000) b some whole (ap (decimal_of_width 4) rest ∙ width-four b (omega arith))

  -- the text of a count by its digits
  pub digits-text : (half d : ℕ) → d ≤ 4 → half ≡ 5 * 10 ^ (11 - d) → digits half d ≡ count_text count d
  digits-text half zero few is = ap (λ (h : ℕ). digits h 0) is ∙ digits0
  digits-text half (suc zero) few is = ap (λ (h : ℕ). digits h 1) is ∙ digits1
  digits-text half (suc (suc zero)) few is = ap (λ (h : ℕ). digits h 2) is ∙ digits2
  digits-text half (suc (suc (suc zero))) few is = ap (λ (h : ℕ). digits h 3) is ∙ digits3
  digits-text half (suc (suc (suc (suc zero)))) few is = ap (λ (h : ℕ). digits h 4) is ∙ digits4
  digits-text half (suc (suc (suc (suc (suc d))))) few is = absurd (omega (arith, few))

  -- and where the decimals are what is left of them
  pub digits-left : (half d : ℕ) → d ≤ 4 → half ≡ 5 * 10 ^ (11 - d) →
      digits_text (record { minus = int_lt count (pos 0) && nat_le half (nat_abs count); whole = (nat_abs count + half) / 100000000 / 10000; behind = (nat_abs count + half) / 100000000 - (nat_abs count + half) / 100000000 / 10000 * 10000 }) d
      ≡ count_text count d
  digits-left half d few is =
      let left : (m + half) / 100000000 % 10000 ≡ (m + half) / 100000000 - (m + half) / 100000000 / 10000 * 10000 = omega arith in
      ap (λ (b : ℕ). digits_text (record { minus = int_lt count (pos 0) && nat_le half (nat_abs count); whole = (nat_abs count + half) / 100000000 / 10000; behind = b }) d) (sym left)
      ∙ digits-text half d few is

pub ruleset by_digits = (digits-left)

-- no decimals, and some
pub behind-none : (d four : ℕ) → d ≡ 0 → behind_text d four ≡ []
behind-none d four none = rw none refl

pub behind-some : (d four : ℕ) → 0 < d → behind_text d four ≡ codes "." ++ take d (four_digits four)
behind-some zero four some = absurd (omega (arith, some))
behind-some (suc d) four some = refl

pub ruleset behinds = (behind-none, behind-some)
