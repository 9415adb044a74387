-- Digits one behind the other, and the first place of a mark.
use Rattle.std.proofs.Common.{◌≡◌, ℕ, ◌-◌, get_or, ◌+◌, ◌*◌, ◌<◌, ◌^◌, Bool, true, false, List, [], ◌∷◌, suc, ◌∙◌, Some, None, length, add-one, refl, inl, inr, arith, ltb}
use Rattle.std.specs.Char.{is_ascii_digit}
use Rattle.std.specs.List.{list_all, list_any, position_or_len, position}
use Rattle.std.proofs.Math.Nat.{pow-suc}
use Rattle.std.proofs.lemmas.Bool.{cases_Bool}
use Rattle.std.proofs.lemmas.List.Folds.{list_all_at}
use Rattle.std.proofs.lemmas.Bool.Decides.{nat_tests}

pub power-more : (v d k : ℕ) → v < 10 ^ k → d < 10 → 10 * v + d < 10 ^ (k + 1)
power-more v d k below digit = rw (add-one, pow-suc) (omega arith)

digit_at : (digits : List ℕ) (i : ℕ) → i < length digits → list_all is_ascii_digit digits ≡ true → is_ascii_digit (get_or digits i 0) ≡ true
digit_at digits i inside each = elim (cases_Bool (is_ascii_digit (get_or digits i 0))) [
  | inl digit ↦ digit
  | inr other ↦ cc (list_all_at is_ascii_digit digits i 0 inside other)
]

digit-small : (c : ℕ) → is_ascii_digit c ≡ true → c - 48 < 10
digit-small c digit = grind (arith, nat_tests)

pub digit_at-small : (digits : List ℕ) (i : ℕ) → i < length digits → list_all is_ascii_digit digits ≡ true → get_or digits i 0 - 48 < 10
digit_at-small digits i inside each = digit-small (get_or digits i 0) (digit_at digits i inside each)

next_place : (n m : ℕ) → ltb n m ≡ ltb (1 + n) (suc m)
next_place n m = grind (arith, nat_tests)

pub list_any-place : (p : ℕ → Bool) (xs : List ℕ) → list_any p xs ≡ ltb (position_or_len p xs) (length xs)
list_any-place p [] = refl
list_any-place p (x ∷ xs) = elim (cases_Bool (p x)) [
  | inl found ↦ rw found (search (arith, nat_tests))
  | inr other ↦ rw (other, list_any-place p xs) (next_place (position_or_len p xs) (length xs))
]

pub found : (p : ℕ → Bool) (xs : List ℕ) (at : ℕ) → Some at ≡ position p xs → list_any p xs ≡ true
found p xs at place = elim (cases_Bool (ltb (position_or_len p xs) (length xs))) [
  | inl inside ↦ list_any-place p xs ∙ inside
  | inr outside ↦ cc (rw outside at place)
]

pub not_found : (p : ℕ → Bool) (xs : List ℕ) → None ≡ position p xs → list_any p xs ≡ false
not_found p xs place = elim (cases_Bool (ltb (position_or_len p xs) (length xs))) [
  | inl inside ↦ cc (rw inside at place)
  | inr outside ↦ list_any-place p xs ∙ outside
]
