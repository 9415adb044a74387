-- Magnitudes of products, and numbers that leave the bounds.
use Rattle.std.proofs.Common.{◌≡◌, ℕ, zero, suc, ◌*◌, ◌^◌, ◌<◌, ◌≤◌, None, Some, refl, arith}
use Rattle.std.specs.Prelude.{ℤ, pos, negsuc, ◌*ℤ◌, neg_ℤ, nat_abs}
use Rattle.std.proofs.Math.Nat.{pow-le-pow_right, mul-le-mul_right, mul-le-mul_left, mul-zero}
use Rattle.std.proofs.lemmas.Bool.Decides.{nat_tests}
use Rattle.dec_num.specs.Narrow.{narrow}

pub nat_abs-neg : (z : ℤ) → nat_abs (neg_ℤ z) ≡ nat_abs z
nat_abs-neg (pos zero) = refl
nat_abs-neg (pos (suc n)) = refl
nat_abs-neg (negsuc n) = refl

pub nat_abs-mul : (a b : ℤ) → nat_abs (a *ℤ b) ≡ nat_abs a * nat_abs b
nat_abs-mul (pos m) (pos n) = refl
nat_abs-mul (pos m) (negsuc n) = nat_abs-neg (pos (m * suc n))
nat_abs-mul (negsuc m) (pos n) = nat_abs-neg (pos (suc m * n))
nat_abs-mul (negsuc m) (negsuc n) = refl

pub narrow-wide : (z : ℤ) → 10 ^ 37 ≤ nat_abs z → None ≡ narrow z
narrow-wide z wide = grind (arith, nat_tests)

-- a number other than 0 times a great power of 10 is too wide
pub narrow-power : (z : ℤ) (k : ℕ) → 0 < nat_abs z → 36 < k → None ≡ narrow (z *ℤ pos (10 ^ k))
narrow-power z k some great =
    let bound : 10 ^ 37 ≤ 10 ^ k = pow-le-pow_right {n = 10} (omega arith) great in
    let more : 1 * 10 ^ k ≤ nat_abs z * 10 ^ k = mul-le-mul_right (10 ^ k) some in
    narrow-wide (z *ℤ pos (10 ^ k)) (omega (arith, nat_abs-mul z (pos (10 ^ k))))

pub ruleset great_powers = (narrow-power)

-- a number other than 0 times one that is too wide is too wide
pub narrow-product : (a b : ℤ) → 10 ^ 37 ≤ nat_abs a → 0 < nat_abs b → None ≡ narrow (a *ℤ b)
narrow-product a b wide some =
    let more : nat_abs a * 1 ≤ nat_abs a * nat_abs b = mul-le-mul_left (nat_abs a) some in
    narrow-wide (a *ℤ b) (omega (arith, nat_abs-mul a b))

pub mul-zero_ℤ : (a b : ℤ) → b ≡ pos 0 → Some (pos 0) ≡ narrow (a *ℤ b)
mul-zero_ℤ a b none = rw none (zero_at a)
  where
    zero_at : (a : ℤ) → Some (pos 0) ≡ narrow (a *ℤ pos 0)
    zero_at (pos n) = rw mul-zero refl
    zero_at (negsuc n) = rw mul-zero refl

pub ruleset wide_products = (narrow-product, mul-zero_ℤ)

-- a product of numbers of 64 bits has few bits
pub word-product : (a b : ℤ) → nat_abs a ≤ 2 ^ 63 → nat_abs b ≤ 2 ^ 63 → nat_abs (a *ℤ b) ≤ 2 ^ 126
word-product a b one two =
    let first : nat_abs a * nat_abs b ≤ 2 ^ 63 * nat_abs b = mul-le-mul_right (nat_abs b) one in
    let second : 2 ^ 63 * nat_abs b ≤ 2 ^ 63 * 2 ^ 63 = mul-le-mul_left (2 ^ 63) two in
    omega (arith, nat_abs-mul a b)

pub ruleset word_products = (word-product)
