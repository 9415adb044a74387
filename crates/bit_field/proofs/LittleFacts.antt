-- Octets the least significant first.
use Rattle.std.proofs.Common.{◌≡◌, ℕ, zero, suc, ◌+◌, ◌*◌, ◌/◌, ◌%◌, ◌^◌, ◌<◌, ◌≤◌, List, drop, refl, subst, sym, ap, ◌∙◌, arith}
use Rattle.std.proofs.Math.Numerals.{add-one}
use Rattle.std.proofs.Math.Nat.{pow-succ', mul-le-mul_right, pow-le-pow_right, add_comm}
use Rattle.std.proofs.lemmas.Nat.{shl_whole}
use Rattle.mib_model.specs.declared.shape.Order.{Order}
use Rattle.mib_model.specs.declared.shape.Order.TheVariants.{Big, Little}
use Rattle.mib_model.specs.Bits.{bits, little_bits, field_number}
use Rattle.bit_field.proofs.BitFacts.{bits-drop, bits-none, octets_power}

pub little-none : (octets : List ℕ) (at : ℕ) → 0 ≡ little_bits octets at 0
unfolding little_bits
little-none octets at = refl

-- a field without bits
pub field-none : (order : Order) (octets : List ℕ) (at width : ℕ) → width ≡ 0 → 0 ≡ field_number order octets at width
unfolding little_bits
field-none Big octets at width none = bits-none octets at width none
field-none Little octets at width none = rw none refl

-- an octet at its weight
pub octet_shifted : (octet i : ℕ) → octet < 2 ^ 8 → i < 8 → octet * 2 ^ (8 * i) % 2 ^ 64 ≡ octet * 256 ^ i
octet_shifted octet i small few = shl_whole octet 8 (8 * i) 64 small (omega arith) ∙ ap (λ (n : ℕ). octet * n) (octets_power i)

pub little-more : (octets : List ℕ) (skip i octet : ℕ) → octet ≡ bits (drop i octets) skip 8 → little_bits octets skip i + octet * 256 ^ i ≡ little_bits octets skip (i + 1)
unfolding little_bits
little-more octets skip i octet e =
    let place : 8 * i + skip ≡ skip + 8 * i = add_comm (8 * i) skip in
    let same : octet ≡ bits octets (skip + 8 * i) 8 = e ∙ bits-drop octets i skip 8 ∙ ap (λ (j : ℕ). bits octets j 8) place in
    rw (add-one, same) refl

pub little-fits : (value octet i : ℕ) → value < 256 ^ i → octet < 256 → value + octet * 256 ^ i < 256 ^ (i + 1)
little-fits value octet i below small =
    let most : octet * 256 ^ i ≤ 255 * 256 ^ i = mul-le-mul_right (256 ^ i) (omega arith) in
    rw add-one (omega (arith, pow-succ' 256 i))

pub little-fits_all : (value octet i : ℕ) → value < 256 ^ i → octet < 256 → i < 8 → value + octet * 256 ^ i < 2 ^ 64
little-fits_all value octet i below small few =
    let bound : 256 ^ suc i ≤ 256 ^ 8 = pow-le-pow_right {n = 256} (omega arith) few in
    let fits : value + octet * 256 ^ i < 256 ^ suc i = subst (λ (n : ℕ). value + octet * 256 ^ i < 256 ^ n) (add-one i) (little-fits value octet i below small) in
    omega arith

-- whole octets have 8 bits each
pub whole-power : (width : ℕ) → width ≡ 8 * (width / 8) → 256 ^ (width / 8) ≡ 2 ^ width
whole-power width whole = sym (octets_power (width / 8)) ∙ ap (λ (n : ℕ). 2 ^ n) (sym whole)

pub little-drop : (octets : List ℕ) (i skip count : ℕ) → little_bits (drop i octets) skip count ≡ little_bits octets (8 * i + skip) count
unfolding little_bits
little-drop octets i skip zero = refl
little-drop octets i skip (suc n) =
    let place : 8 * i + (skip + 8 * n) ≡ 8 * i + skip + 8 * n = omega arith in
    rw (little-drop octets i skip n, bits-drop octets i (skip + 8 * n) 8, place) refl

pub little-place : (octets : List ℕ) (at count : ℕ) → little_bits (drop (at / 8) octets) (at % 8) count ≡ little_bits octets at count
little-place octets at count =
    let same : 8 * (at / 8) + at % 8 ≡ at = omega arith in
    little-drop octets (at / 8) (at % 8) count ∙ ap (λ (j : ℕ). little_bits octets j count) same
