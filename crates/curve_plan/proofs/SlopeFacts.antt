-- How a line climbs between two points.
use Rattle.std.proofs.Common.{◌≡◌, ℕ, zero, suc, ◌+◌, ◌*◌, ◌/◌, ◌%◌, ◌^◌, ◌<◌, ◌≤◌, Bool, true, false, Ok, Some, inl, inr, int_lt, refl, sym, ap, ◌∙◌, arith}
use Rattle.std.specs.Prelude.{ℤ, pos, ◌+ℤ◌, ◌-ℤ◌, ◌*ℤ◌, ◌≤ℤ◌, nat_abs}
use Rattle.std.proofs.Math.Nat.{div-lt_iff_lt-mul, mul-zero, mul-add-div, mul-le-mul_right, mul-le-mul_left, div-eq_of_lt, mod-lt}
use Rattle.std.proofs.lemmas.Nat.{div-add-mod'}
use Rattle.std.proofs.lemmas.Bool.{cases_Bool}
use Rattle.std.proofs.lemmas.Int.{ints}
use Rattle.std.proofs.lemmas.Bool.Decides.{nat_tests}
use Rattle.mib_model.specs.Calibrated.{Counted, calibrated, is_wide, is_wide_result}
use Rattle.mib_model.specs.Counts.{half}
use Rattle.mib_model.specs.Decimals.{with_sign}
use Rattle.mib_model.specs.Points.{Knot, interpolated, on_pair, product_of}
use Rattle.curve_plan.specs.declared.fast.slope.Slope.{Slope}
use Rattle.curve_plan.specs.Slopes.{climbed, rise_of, IsOnLine, IsSlope}
use Rattle.dec_num.proofs.ScalingFacts.{nat_abs-neg}

-- a climb by a quotient and its rest
pub climbed-parts : (numbers whole rest run : ℕ) → 0 < run → numbers * whole + (2 * (numbers * rest) + run) / (2 * run) ≡ climbed numbers (whole * run + rest) run
climbed-parts numbers whole rest run some =
    let parts : 2 * (numbers * (whole * run + rest)) + run ≡ 2 * run * (numbers * whole) + (2 * (numbers * rest) + run) = omega arith in
    rw parts (sym (mul-add-div (omega arith) (numbers * whole) (2 * (numbers * rest) + run)))

-- a line climbs no more than it rises
pub climbed-within : (numbers rise run : ℕ) → numbers ≤ run → climbed numbers rise run ≤ rise
climbed-within numbers rise zero inside = omega (arith, inside)
climbed-within numbers rise (suc less) inside =
    let most : numbers * rise ≤ suc less * rise = mul-le-mul_right rise inside in
    let below = (div-lt_iff_lt-mul {k = 2 * suc less} {x = 2 * (numbers * rise) + suc less} {y = rise + 1} (omega arith)).1 (omega (arith, most)) in
    omega (arith, below)

pub ruleset climbs = (climbed-parts, climbed-within)

signed-product : (minus : Bool) (n m : ℕ) → pos n *ℤ with_sign minus m ≡ with_sign minus (n * m)
signed-product false n m = refl
signed-product true n zero = rw mul-zero refl
signed-product true n (suc m) = refl

signed-magnitude : (minus : Bool) (n : ℕ) → nat_abs (with_sign minus n) ≡ n
signed-magnitude false n = refl
signed-magnitude true n = nat_abs-neg (pos n)

not-below : (n : ℕ) → int_lt (pos n) (pos 0) ≡ false
not-below n = grind (arith, ints)

signed-half : (minus : Bool) (n b : ℕ) → 0 < b → half (with_sign minus n) b ≡ with_sign minus ((2 * n + b) / (2 * b))
unfolding half
signed-half false n b some = rw (not-below n) refl
signed-half true zero b some = rw (div-eq_of_lt {n = 2 * 0 + b} {m = 2 * b} (omega arith)) refl
signed-half true (suc n) b some = refl

-- a difference by its sign and its magnitude
signed-rise : (a b : ℤ) → a -ℤ b ≡ with_sign (int_lt a b) (nat_abs (a -ℤ b))
signed-rise a b = elim (cases_Bool (int_lt a b)) [
  | inl less ↦ rw less (grind (arith, ints, less))
  | inr more ↦ rw more (grind (arith, ints, more))
]

-- a rise by its quotient and its rest
pub rise-parts : (a b : ℤ) (run : ℕ) → a -ℤ b ≡ with_sign (int_lt a b) (nat_abs (a -ℤ b) / run * run + nat_abs (a -ℤ b) % run)
rise-parts a b run = rw (div-add-mod' (nat_abs (a -ℤ b)) run) (signed-rise a b)

pub rise-small : (rise run : ℕ) → rise / run * run + rise % run ≤ rise
rise-small rise run = omega (arith, div-add-mod' rise run)

pub ruleset rises = (rise-parts, rise-small, mod-lt)

narrow-result : (y : ℤ) (minus : Bool) (n : ℕ) → nat_abs y ≤ 2 ^ 63 → n < 2 ^ 64 → is_wide_result (y +ℤ with_sign minus n) ≡ false
narrow-result y false n one two = grind (arith, ints, nat_tests)
narrow-result y true n one two = grind (arith, ints, nat_tests)

-- the value on a line of which the slope is known
interpolated-between : (p q : Knot) (s : Slope) (raw : ℤ) (numbers : ℕ) → IsSlope p q s → raw -ℤ p.x ≡ pos numbers → numbers ≤ s.run
    → Ok (p.y +ℤ with_sign s.falls (climbed numbers (rise_of s) s.run)) ≡ interpolated p q raw
unfolding interpolated
interpolated-between p q s raw numbers slope place inside =
    let rise : ℕ = rise_of s in
    let climb : ℕ = climbed numbers rise s.run in
    let product : product_of p q raw ≡ with_sign s.falls (numbers * rise) = rw (place, slope.rise) (signed-product s.falls numbers rise) in
    let run : nat_abs (q.x -ℤ p.x) ≡ s.run = ap nat_abs slope.run in
    let offset : half (product_of p q raw) (nat_abs (q.x -ℤ p.x)) ≡ with_sign s.falls climb = rw (product, run) (signed-half s.falls (numbers * rise) s.run slope.line.some) in
    let small : numbers * rise ≤ 2 ^ 32 * 2 ^ 64 =
    let fewer : numbers ≤ 2 ^ 32 = omega (arith, inside, slope.line.short) in
    let one : numbers * rise ≤ 2 ^ 32 * rise = mul-le-mul_right rise fewer in
    let less : rise ≤ 2 ^ 64 = omega (arith, slope.line.small) in
    let two : 2 ^ 32 * rise ≤ 2 ^ 32 * 2 ^ 64 = mul-le-mul_left (2 ^ 32) less in
    omega (arith, one, two) in
    let narrow_rise : is_wide (q.y -ℤ p.y) ≡ false = rw slope.rise (grind (arith, nat_tests, signed-magnitude s.falls rise, slope.line.small)) in
    let narrow_product : is_wide (product_of p q raw) ≡ false = rw product (grind (arith, nat_tests, signed-magnitude s.falls (numbers * rise), small)) in
    let narrow_value : is_wide_result (p.y +ℤ with_sign s.falls climb) ≡ false =
    narrow-result p.y s.falls climb slope.word (omega (arith, slope.line.small, climbed-within numbers rise s.run inside)) in
    rw (narrow_rise, narrow_product, offset, narrow_value) refl

-- what two points make of a raw number between them
on-between : (p q : Knot) (inter : ℕ) (raw v : ℤ) → p.x ≤ℤ raw → raw ≤ℤ q.x → Ok v ≡ interpolated p q raw → Counted v ≡ on_pair inter raw (Some (p, q))
on-between p q inter raw v low high is =
    let first : int_lt raw p.x ≡ false = grind (arith, ints) in
    let second : int_lt q.x raw ≡ false = grind (arith, ints) in
    rw (first, second) (ap calibrated is)

-- what two points make of a raw number on the line between them
pub on-line : (p q : Knot) (inter : ℕ) (raw count : ℤ) (s : Slope) → IsSlope p q s → IsOnLine s raw count → Counted count ≡ on_pair inter raw (Some (p, q))
on-line p q inter raw count s slope on =
    let low : p.x ≤ℤ raw = omega (arith, ints, slope.x, on.low) in
    let high : raw ≤ℤ q.x = omega (arith, ints, slope.x, slope.run, on.high) in
    let same : raw -ℤ s.x ≡ raw -ℤ p.x = ap (λ (z : ℤ). raw -ℤ z) (sym slope.x) in
    let place : raw -ℤ p.x ≡ pos (nat_abs (raw -ℤ p.x)) = grind (arith, ints, low) in
    let inside : nat_abs (raw -ℤ p.x) ≤ s.run = grind (arith, ints, low, high, slope.run) in
    let value : count ≡ p.y +ℤ with_sign s.falls (climbed (nat_abs (raw -ℤ p.x)) (rise_of s) s.run) = rw (sym same, slope.y) on.value in
    on-between p q inter raw count low high (ap Ok value ∙ interpolated-between p q s raw (nat_abs (raw -ℤ p.x)) slope place inside)

pub ruleset between = (on-line)
