-- Quotients rounded to the nearest whole number.
use Rattle.std.proofs.Common.{◌≡◌, ℕ, ◌+◌, ◌-◌, ◌*◌, ◌/◌, ◌%◌, ◌^◌, ◌<◌, ◌≤◌, Bool, true, false, sym, refl, arith}
use Rattle.std.specs.Prelude.{ℤ, pos, nat_abs, int_lt}
use Rattle.std.proofs.Math.Nat.{div-add-mod, div-eq_of_lt-le, div-eq_of_lt, mod-lt, pow-le-pow_right, one-le-pow}
use Rattle.mib_model.specs.Decimals.{with_sign}
use Rattle.mib_model.specs.Counts.{half}

pub nearest-below : (m b : ℕ) → m % b < b - m % b → m / b ≡ (2 * m + b) / (2 * b)
nearest-below m b less =
    let split = div-add-mod m b in
    let low : m / b * (2 * b) ≤ 2 * m + b = omega (arith, split) in
    let high : 2 * m + b < (m / b + 1) * (2 * b) = omega (arith, split) in
    sym (div-eq_of_lt-le (2 * b) low high)

pub nearest-above : (m b : ℕ) → 0 < b → b - m % b ≤ m % b → m / b + 1 ≡ (2 * m + b) / (2 * b)
nearest-above m b some more =
    let split = div-add-mod m b in
    let rest = mod-lt m some in
    let low : (m / b + 1) * (2 * b) ≤ 2 * m + b = omega (arith, split) in
    let high : 2 * m + b < (m / b + 1 + 1) * (2 * b) = omega (arith, split) in
    sym (div-eq_of_lt-le (2 * b) low high)

pub ruleset nearest = (nearest-below, nearest-above)

pub pow-positive : (k : ℕ) → 0 < 10 ^ k
pow-positive k = one-le-pow k 10 (omega arith)

pub pow-fits : (k : ℕ) → k ≤ 38 → 10 ^ k < 2 ^ 128
pow-fits k few = let bound : 10 ^ k ≤ 10 ^ 38 = pow-le-pow_right {n = 10} (omega arith) few in omega arith

pub pow-fits_word : (k : ℕ) → k ≤ 19 → 10 ^ k < 2 ^ 64
pow-fits_word k few = let bound : 10 ^ k ≤ 10 ^ 19 = pow-le-pow_right {n = 10} (omega arith) few in omega arith

signed-zero : (minus : Bool) → pos 0 ≡ with_sign minus 0
signed-zero true = refl
signed-zero false = refl

-- a number is nearest to 0 over a power of 10 that is too great for it
pub half-nothing : (z : ℤ) (k : ℕ) → nat_abs z < 2 ^ 127 → 38 < k → pos 0 ≡ half z (10 ^ k)
unfolding half
half-nothing z k small many =
    let bound : 10 ^ 39 ≤ 10 ^ k = pow-le-pow_right {n = 10} (omega arith) many in
    let less : 2 * nat_abs z + 10 ^ k < 2 * 10 ^ k = omega arith in
    rw (div-eq_of_lt less) (signed-zero (int_lt z (pos 0)))

pub pow-fits_signed : (k : ℕ) → k ≤ 36 → 10 ^ k < 2 ^ 127
pow-fits_signed k few = let bound : 10 ^ k ≤ 10 ^ 36 = pow-le-pow_right {n = 10} (omega arith) few in omega arith

pub ruleset powers = (pow-positive, pow-fits, pow-fits_word, pow-fits_signed, half-nothing)
