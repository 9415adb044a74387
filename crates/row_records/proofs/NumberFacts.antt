-- Raw numbers lie from -2^63 to 2^64 - 1.
use Rattle.std.proofs.Common.{◌≡◌, ℕ, zero, suc, ◌+◌, ◌-◌, ◌*◌, ◌/◌, ◌^◌, ◌<◌, ◌≤◌, ℤ, pos, ◌≤ℤ◌, true, nat_le, List, refl, subst, inl, inr, arith}
use Rattle.std.proofs.Math.Numerals.{add-one}
use Rattle.std.proofs.Math.Pow.{pow_mono}
use Rattle.std.proofs.lemmas.Bool.{cases_Bool, leb-true}
use Rattle.std.proofs.lemmas.Int.{ints}
use Rattle.bit_field.proofs.BitFacts.{bits-below, half-below, half-twice}
use Rattle.bit_field.proofs.EncodingFacts.{encoding_facts}
use Rattle.bit_field.proofs.LittleFacts.{little-fits, whole-power}
use Rattle.bit_field.specs.Numbers.{has_number}
use Rattle.mib_model.specs.declared.shape.Order.{Order}
use Rattle.mib_model.specs.declared.shape.Order.TheVariants.{Big, Little}
use Rattle.mib_model.specs.declared.shape.Sort.{Sort}
use Rattle.mib_model.specs.declared.shape.Sort.TheVariants as sorts
use Rattle.mib_model.specs.Bits.{bits, little_bits, field_number, signed_number, number_of_sort, raw_number}
use Rattle.mib_model.specs.Encodings.{Encoding, IsEncoding}
use Rattle.mib_model.specs.WholeNumbers.{least_raw, greatest_raw}

-- a number is a raw number
abbrev pub Lies : ℤ → Type 0
Lies z = (least_raw ≤ℤ z) × (z ≤ℤ greatest_raw)

little-below : (octets : List ℕ) (at n : ℕ) → little_bits octets at n < 256 ^ n
unfolding little_bits
little-below octets at zero = omega arith
little-below octets at (suc n) =
    subst (λ (k : ℕ). little_bits octets at n + bits octets (at + 8 * n) 8 * 256 ^ n < 256 ^ k) (add-one n)
    (little-fits (little_bits octets at n) (bits octets (at + 8 * n) 8) n (little-below octets at n) (bits-below octets (at + 8 * n) 8))

field-below : (order : Order) (octets : List ℕ) (at width : ℕ) → (order ≡ Little → width ≡ 8 * (width / 8)) → field_number order octets at width < 2 ^ width
field-below Big octets at width whole = bits-below octets at width
field-below Little octets at width whole = subst (λ (n : ℕ). little_bits octets at (width / 8) < n) (whole-power width (whole refl)) (little-below octets at (width / 8))

unsigned-lies : (width n : ℕ) → width ≤ 64 → n < 2 ^ width → Lies (pos n)
unsigned-lies width n few below = let most : 2 ^ width ≤ 2 ^ 64 = pow_mono {i = width} {j = 64} few in (omega (arith, ints), omega (arith, ints))

signed-lies : (width n : ℕ) → 0 < width → width ≤ 64 → n < 2 ^ width → Lies (signed_number width n)
signed-lies width n some few below = elim (cases_Bool (nat_le (2 ^ (width - 1)) n)) [
  | inl high ↦
      rw high
      (let low = leb-true (2 ^ (width - 1)) n high in
      let half = half-below width some few in
      let twice = half-twice width some in
      (omega (arith, ints), omega (arith, ints)))
  | inr low ↦ rw low (unsigned-lies width n few below)
]

sort-lies : (sort : Sort) (width n : ℕ) → (has_number sort ≡ true → (0 < width) × (width ≤ 64)) → n < 2 ^ width → Lies (number_of_sort sort width n)
sort-lies sorts.Unsigned width n fine below = unsigned-lies width n (fine refl).1 below
sort-lies sorts.Signed width n fine below = signed-lies width n (fine refl).0 (fine refl).1 below
sort-lies sorts.Real width n fine below = (omega (arith, ints), omega (arith, ints))
sort-lies sorts.Octets width n fine below = (omega (arith, ints), omega (arith, ints))
sort-lies sorts.Chars width n fine below = (omega (arith, ints), omega (arith, ints))
sort-lies sorts.Cds width n fine below = (omega (arith, ints), omega (arith, ints))
sort-lies (sorts.Cuc coarse fine') width n fine below = (omega (arith, ints), omega (arith, ints))
sort-lies sorts.Deduced width n fine below = (omega (arith, ints), omega (arith, ints))

-- the number of a value is a raw number
pub raw-lies : (e : Encoding) → IsEncoding e → (octets : List ℕ) (at : ℕ) → Lies (raw_number e octets at)
unfolding raw_number
raw-lies e is octets at =
    let facts = encoding_facts e is in
    sort-lies e.sort e.width (field_number e.order octets at e.width) facts.0 (field-below e.order octets at e.width facts.1)
