-- Sums of 64 bits as counts.
use Rattle.std.proofs.Common.{◌≡◌, ℕ, ◌-◌, ◌*◌, ◌^◌, ◌≤◌, ◌<◌, false, Some, refl, sym, subst, arith}
use Rattle.std.specs.Prelude.{ℤ, pos, ◌+ℤ◌, ◌*ℤ◌, ◌-ℤ◌, nat_abs}
use Rattle.mib_model.specs.Calibrated.{is_wide}
use Rattle.dec_num.specs.Sums.{advanced}
use Rattle.std.proofs.Math.Nat.{mul-le-mul_right, mul-le-mul_left, pow-le-pow_right}
use Rattle.std.proofs.lemmas.Bool.Decides.{nat_tests}
use Rattle.std.proofs.lemmas.Int.{ints}
use Rattle.mib_model.specs.Polynomials.{to_count}
use Rattle.dec_num.specs.Narrow.{narrow_result}
use Rattle.dec_num.proofs.ScalingFacts.{nat_abs-mul}

word-result : (sum : ℤ) (power : ℕ) → nat_abs sum ≤ 2 ^ 63 → power ≤ 10 ^ 12 → nat_abs (sum *ℤ pos power) < 10 ^ 36
word-result sum power one two =
    let first : nat_abs sum * power ≤ 2 ^ 63 * power = mul-le-mul_right power one in
    let second : 2 ^ 63 * power ≤ 2 ^ 63 * 10 ^ 12 = mul-le-mul_left (2 ^ 63) two in
    omega (arith, nat_abs-mul sum (pos power))

places : (scale : ℕ) → scale ≤ 12 → pos 12 -ℤ pos scale ≡ pos (12 - scale)
places scale few = omega (arith, ints)

-- a sum of 64 bits as a count
pub word-count : (sum : ℤ) (scale : ℕ) → nat_abs sum ≤ 2 ^ 63 → scale ≤ 12 → Some (sum *ℤ pos (10 ^ (12 - scale))) ≡ narrow_result (to_count scale sum)
word-count sum scale one few =
    let fewer : 12 - scale ≤ 12 = omega arith in
    let power : 10 ^ (12 - scale) ≤ 10 ^ 12 = pow-le-pow_right {n = 10} (omega arith) fewer in
    let below = word-result sum (10 ^ (12 - scale)) one power in
    rw (places scale few) (grind (arith, nat_tests, below))

-- a next power and a sum of 64 bits
pub word-advanced : (raw power total coefficient next term more : ℤ) → next ≡ power *ℤ raw → term ≡ coefficient *ℤ next → more ≡ total +ℤ term
    → nat_abs next ≤ 2 ^ 63 → nat_abs term ≤ 2 ^ 63 → nat_abs more ≤ 2 ^ 63 → advanced raw power total coefficient ≡ Some (next, more)
word-advanced raw power total coefficient next term more is_next is_term is_more one two three =
    let first : is_wide (power *ℤ raw) ≡ false = subst (λ (z : ℤ). is_wide z ≡ false) is_next (grind (arith, nat_tests, one)) in
    let second : is_wide (coefficient *ℤ next) ≡ false = subst (λ (z : ℤ). is_wide z ≡ false) is_term (grind (arith, nat_tests, two)) in
    let third : is_wide (total +ℤ term) ≡ false = subst (λ (z : ℤ). is_wide z ≡ false) is_more (grind (arith, nat_tests, three)) in
    rw (first, sym is_next, second, sym is_term, third, sym is_more) refl

pub ruleset word_counts = (word-count)
