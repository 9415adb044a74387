-- A decimal from its parts.
use Rattle.std.proofs.Common.{◌≡◌, ℕ, ◌-◌, ◌<◌, ◌+◌, ◌≤◌, ℤ, pos, ◌+ℤ◌, ◌-ℤ◌, Bool, true, false, ◌&&◌, List, [], ◌∷◌, ◌++◌, length, Option, Some, None, refl, sym, ap, ◌∙◌, arith, Bor, length-take, inl, inr, ltb}
use Rattle.std.specs.Prelude.{nat_le, IfSome, IsSome, ◌↔◌, option_map}
use Rattle.std.specs.List.{suffix_len, list_all, list_any, after_first, position_or_len}
use Rattle.std.proofs.lemmas.Bool.{cases_Bool}
use Rattle.std.proofs.lemmas.Bool.Decides.{nat_tests}
use Rattle.std.proofs.lemmas.List.{drop_all}
use Rattle.mib_model.specs.Digits.{are_digits}
use Rattle.dec_num.proofs.DigitFacts.{list_any-place}
use Rattle.std.specs.Char.{is_ascii_digit}
use Rattle.std.proofs.lemmas.List.Sums.{suffix_len-le-length}
use Rattle.mib_model.specs.Decimals.{is_zero_digit, is_sign, without_leading, without_trailing, scaled, scaled_from, dec_of, whole_digits, fraction_digits, has_minus, has_exponent_form, exponent_value, exponent_part, unsigned_part, is_exponent_mark}
use Rattle.dec_num.specs.Parts.{exponent_behind, exponent_of}

length-trailing : (digits : List ℕ) → length digits - length (without_trailing digits) ≡ suffix_len is_zero_digit digits
length-trailing digits = omega (arith, length-take (length digits - suffix_len is_zero_digit digits) digits, suffix_len-le-length is_zero_digit digits)

-- digits that end in zeros
pub from_scaled : (minus : Bool) (digits left : List ℕ) (n : ℕ) (exponent shifted : ℤ) → left ≡ without_trailing digits → 0 < length digits
    → n ≡ length digits - length left → shifted ≡ exponent +ℤ pos n → scaled minus left shifted ≡ scaled_from minus digits exponent
from_scaled minus [] left n exponent shifted is some count shift = absurd (omega arith)
from_scaled minus (d ∷ ds) left n exponent shifted is some count shift =
    let all : n ≡ suffix_len is_zero_digit (d ∷ ds) = count ∙ ap (λ (xs : List ℕ). length (d ∷ ds) - length xs) is ∙ length-trailing (d ∷ ds) in
    rw (is, shift, all) refl

-- a sign is no mark
list_any-behind_sign : (text : List ℕ) → list_any is_exponent_mark text ≡ list_any is_exponent_mark (unsigned_part text)
list_any-behind_sign [] = refl
list_any-behind_sign (c ∷ rest) = elim (cases_Bool (is_sign c)) [
  | inl sign ↦ rw (sign, sign_is_no_mark c sign) refl
  | inr other ↦ rw other refl
] where
  sign_is_no_mark : (c : ℕ) → is_sign c ≡ true → is_exponent_mark c ≡ false
  sign_is_no_mark c sign = grind (arith, nat_tests)

-- nothing stands behind a mark that isn't there
after_none : (p : ℕ → Bool) (xs : List ℕ) → list_any p xs ≡ false → after_first p xs ≡ []
after_none p xs none =
    let outside : ltb (position_or_len p xs) (length xs) ≡ false = sym (list_any-place p xs) ∙ none in
    let past : length xs ≤ position_or_len p xs + 1 = grind (arith, nat_tests) in
    drop_all (position_or_len p xs + 1) xs past

no_exponent : (text : List ℕ) → list_any is_exponent_mark (unsigned_part text) ≡ false → (has_exponent_form text ≡ true) × (pos 0 ≡ exponent_value text)
no_exponent text none = (rw (list_any-behind_sign text, none) refl, rw (after_none is_exponent_mark (unsigned_part text) none) refl)

some_exponent : (text behind : List ℕ) (exponent : ℤ) → behind ≡ exponent_part text → list_any is_exponent_mark (unsigned_part text) ≡ true → Some exponent ≡ exponent_of behind
    → (has_exponent_form text ≡ true) × (exponent ≡ exponent_value text)
some_exponent text behind exponent is marked reads = elim (cases_Bool (are_digits 1 9 (unsigned_part behind))) [
  | inl digits ↦ (rw (list_any-behind_sign text, marked, ← is, digits) refl, rw (← is) (cc (rw digits at reads)))
  | inr other ↦ absurd (none_is_some (rw other at reads))
] where
  none_is_some : Some exponent ≡ None → ⊥
  none_is_some same = cc

-- the exponent, where it is in form
pub exponent-form : (text : List ℕ) (behind : Option (Bor (List ℕ))) (exponent : ℤ) → IfSome behind (λ rest. rest.now ≡ exponent_part text)
    → (IsSome behind ↔ (list_any is_exponent_mark (unsigned_part text) ≡ true)) → Some exponent ≡ exponent_behind (option_map (λ r. r.now) behind)
    → (has_exponent_form text ≡ true) × (exponent ≡ exponent_value text)
exponent-form text None exponent rest marked reads = elim (cases_Bool (list_any is_exponent_mark (unsigned_part text))) [
  | inl found ↦ absurd (not_some (marked.1 found))
  | inr other ↦ (let e : exponent ≡ pos 0 = cc in rw e (no_exponent text other))
] where
  not_some : IsSome {T = Bor (List ℕ)} None → ⊥
  not_some some = cc
exponent-form text (Some behind) exponent rest marked reads = some_exponent text behind.now exponent rest (marked.0 refl) reads

-- the decimal of a text in form
pub from_parts : (text whole fraction left : List ℕ) (minus : Bool) (exponent shifted : ℤ) → whole ≡ whole_digits text → fraction ≡ fraction_digits text → minus ≡ has_minus text
    → true ≡ (nat_le 1 (length (whole ++ fraction)) && list_all is_ascii_digit (whole ++ fraction)) → left ≡ without_leading (whole ++ fraction)
    → (has_exponent_form text ≡ true) × (exponent ≡ exponent_value text) → shifted ≡ exponent -ℤ pos (length fraction) → scaled_from minus left shifted ≡ dec_of text
unfolding dec_of
from_parts text whole fraction left minus exponent shifted whole-is fraction-is minus-is digits left-is form shift =
    let test : (nat_le 1 (length (whole_digits text ++ fraction_digits text)) && list_all is_ascii_digit (whole_digits text ++ fraction_digits text)) ≡ true = rw (← whole-is, ← fraction-is) (sym digits) in
    rw (test, form.0, shift, form.1, minus-is, left-is, whole-is, fraction-is) refl
