-- Numbers in other bases.
use Rattle.std.proofs.Common.{◌≡◌, ℕ, ◌+◌, ◌-◌, ◌*◌, ◌^◌, ◌<◌, ◌≤◌, Bool, true, List, [], ◌∷◌, fold, refl, ap, ◌∙◌, arith}
use Rattle.std.specs.Prelude.{◌&&◌}
use Rattle.std.specs.List.{list_all}
use Rattle.std.proofs.Math.Nat.{pow-le-pow_right, mul-le-mul_right}
use Rattle.std.proofs.lemmas.Bool.Decides.{nat_tests}
use Rattle.mib_model.specs.WholeNumbers.{is_hex_digit, is_octal_digit, hex_digit_value, octal_value}

-- a digit more stays below 16^22
pub digit_in_fits : (base value digit i : ℕ) → base ≤ 16 → value < 16 ^ i → digit < 16 → i ≤ 21 → base * value + digit < 16 ^ 22
digit_in_fits base value digit i few below small room =
    let bound : 16 ^ i ≤ 16 ^ 21 = pow-le-pow_right {n = 16} (omega arith) room in
    let product : base * value ≤ 16 * value = mul-le-mul_right value few in
    omega arith

pub all_fit : (value i : ℕ) → value < 16 ^ i → i ≤ 22 → value < 16 ^ 22
all_fit value i below room =
    let bound : 16 ^ i ≤ 16 ^ 22 = pow-le-pow_right {n = 16} (omega arith) room in
    omega arith

octal-hex : (octet : ℕ) → is_octal_digit octet ≡ true → is_hex_digit octet ≡ true
octal-hex octet octal = grind (arith, nat_tests)

octal-value : (octet : ℕ) → is_octal_digit octet ≡ true → hex_digit_value octet ≡ octet - 48
octal-value octet octal = grind (arith, nat_tests)

first : (a b : Bool) → (a && b) ≡ true → a ≡ true
first a b both = grind (arith, nat_tests)

rest : (a b : Bool) → (a && b) ≡ true → b ≡ true
rest a b both = grind (arith, nat_tests)

both_true : (a b : Bool) → a ≡ true → b ≡ true → (a && b) ≡ true
both_true a b x y = grind (arith, nat_tests)

-- octal digits are hexadecimal digits, and stand for the same
pub octal-hex_all : (digits : List ℕ) → list_all is_octal_digit digits ≡ true → list_all is_hex_digit digits ≡ true
octal-hex_all [] all = refl
octal-hex_all (d ∷ ds) all =
    both_true (is_hex_digit d) (list_all is_hex_digit ds) (octal-hex d (first (is_octal_digit d) (list_all is_octal_digit ds) all))
    (octal-hex_all ds (rest (is_octal_digit d) (list_all is_octal_digit ds) all))

octal-fold : (digits : List ℕ) (a : ℕ) → list_all is_octal_digit digits ≡ true
    → fold (λ value digit. 8 * value + hex_digit_value digit) a digits ≡ fold (λ value digit. 8 * value + (digit - 48)) a digits
octal-fold [] a all = refl
octal-fold (d ∷ ds) a all =
    octal-fold ds (8 * a + hex_digit_value d) (rest (is_octal_digit d) (list_all is_octal_digit ds) all) ∙
    ap (λ (n : ℕ). fold (λ value digit. 8 * value + (digit - 48)) (8 * a + n) ds) (octal-value d (first (is_octal_digit d) (list_all is_octal_digit ds) all))

pub octal-in_base : (digits : List ℕ) → list_all is_octal_digit digits ≡ true → fold (λ value digit. 8 * value + hex_digit_value digit) 0 digits ≡ octal_value digits
octal-in_base digits all = octal-fold digits 0 all

pub ruleset octal = (octal-hex_all, octal-in_base)

pub ruleset bases = (digit_in_fits, all_fit)
