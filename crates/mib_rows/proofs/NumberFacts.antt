-- A number that is written is read again.
use Rattle.std.proofs.Common.{◌≡◌, ℕ, suc, ◌≤◌, ◌<◌, ◌^◌, true, false, List, [], ◌∷◌, length, refl, ◌∙◌, arith, eqb, decimal, ℤ, pos, negsuc, nat_abs, ◌≤ℤ◌, Some}
use Rattle.std.proofs.lemmas.Int.{ints}
use Rattle.std.specs.Prelude.{nat_le, int_le}
use Rattle.std.specs.Fmt.{signed_decimal}
use Rattle.std.specs.Char.{is_ascii_digit}
use Rattle.std.specs.List.{list_all}
use Rattle.std.proofs.lemmas.Bool.Decides.{nat_tests}
use Rattle.std.proofs.lemmas.Fmt.{decimal_nonempty, length-decimal-le}
use Rattle.mib_model.specs.Numbers.{magnitude_of, signed_of, in_range, number_of}
use Rattle.mib_rows.proofs.PlainFacts.{IsSpelled, spelled, and_left}

magnitude-again : (n : ℕ) (digits : List ℕ) → length digits ≤ 20 → 0 < length digits → IsSpelled n digits → magnitude_of digits ≡ Some (pos n)
magnitude-again n digits short filled spells =
    let least : nat_le 1 (length digits) ≡ true = grind (arith, nat_tests) in
    let most : nat_le (length digits) 20 ≡ true = grind (arith, nat_tests) in
    rw (least, most, spells.each, spells.value) refl

magnitude-decimal : (n : ℕ) → n < 2 ^ 64 → magnitude_of (decimal n) ≡ Some (pos n)
magnitude-decimal n small = magnitude-again n (decimal n) (length-decimal-le 20 n (omega arith) (omega arith) small) (decimal_nonempty n small) (spelled n small)

pub record HasNoSign (c : ℕ) : Type 0 where
  pub minus : eqb c 0x2D ≡ false
  pub plus : eqb c 0x2B ≡ false

digit_has_no_sign : (c : ℕ) → is_ascii_digit c ≡ true → HasNoSign c
digit_has_no_sign c digit = record { minus = grind (arith, nat_tests); plus = grind (arith, nat_tests) }

signed_digits : (digits : List ℕ) → 0 < length digits → list_all is_ascii_digit digits ≡ true → signed_of digits ≡ magnitude_of digits
signed_digits [] filled each = absurd (omega arith)
signed_digits (c ∷ digits) filled each =
    let unsigned = digit_has_no_sign c (and_left (is_ascii_digit c) (list_all is_ascii_digit digits) each) in
    rw (unsigned.minus, unsigned.plus) refl

pub signed-again : (z : ℤ) → nat_abs z < 2 ^ 64 → signed_of (signed_decimal z) ≡ Some z
signed-again (pos n) small = signed_digits (decimal n) (decimal_nonempty n small) (spelled n small).each ∙ magnitude-decimal n small
signed-again (negsuc n) small = rw (magnitude-decimal (suc n) small) refl

in_range-again : (low high z : ℤ) → low ≤ℤ z → z ≤ℤ high → in_range low high z ≡ Some z
in_range-again low high z above below =
    let a : int_le low z ≡ true = search (arith, ints, nat_tests) in
    let b : int_le z high ≡ true = search (arith, ints, nat_tests) in
    rw (a, b) refl

pub number-again : (low high z : ℤ) → nat_abs z < 2 ^ 64 → low ≤ℤ z → z ≤ℤ high → number_of low high (signed_decimal z) ≡ Some z
number-again low high z small above below = rw (signed-again z small) (in_range-again low high z above below)
