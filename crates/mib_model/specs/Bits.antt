-- The bits of octets and the numbers in them. [CCSDS 133.0-B and ECSS-E-70-41A number bits from the most significant of the
-- first octet; the order Little is this profile's.]
use Rattle.std.specs.Prelude.{ℕ, zero, suc, ◌+◌, ◌-◌, ◌*◌, ◌/◌, ◌%◌, ◌^◌, ℤ, pos, ◌-ℤ◌, Bool, List, length, slice_index, nat_le, if◌then◌else◌}
use Rattle.mib_model.specs.declared.shape.Sort.{Sort}
use Rattle.mib_model.specs.declared.shape.Sort.TheVariants.{Unsigned, Signed}
use Rattle.mib_model.specs.declared.shape.Order.{Order}
use Rattle.mib_model.specs.declared.shape.Order.TheVariants.{Big, Little}
use Rattle.mib_model.specs.Encodings.{Encoding}

-- a bit, counted from the most significant of the first octet
abbrev pub bit : List ℕ → ℕ → ℕ
bit octets j = slice_index octets (j / 8) / 2 ^ (7 - j % 8) % 2

-- the number in so many bits from a place on, the most significant first
unfoldable pub bits : List ℕ → ℕ → ℕ → ℕ
bits octets at zero = 0
bits octets at (suc width) = 2 * bits octets at width + bit octets (at + width)

-- the number in so many octets from a place on, the least significant first
unfoldable pub little_bits : List ℕ → ℕ → ℕ → ℕ
little_bits octets at zero = 0
little_bits octets at (suc n) = little_bits octets at n + bits octets (at + 8 * n) 8 * 256 ^ n

-- the unsigned number of a field
abbrev pub field_number : Order → List ℕ → ℕ → ℕ → ℕ
field_number Big octets at width = bits octets at width
field_number Little octets at width = little_bits octets at (width / 8)

-- the two's complement of a number of a width
abbrev pub signed_number : ℕ → ℕ → ℤ
signed_number width n = if nat_le (2 ^ (width - 1)) n then pos n -ℤ pos (2 ^ width) else pos n

-- the number of a value; sorts without one have 0
abbrev pub number_of_sort : Sort → ℕ → ℕ → ℤ
number_of_sort Unsigned width n = pos n
number_of_sort Signed width n = signed_number width n
number_of_sort other width n = pos 0

-- the raw number of a value of an encoding
unfoldable pub raw_number : Encoding → List ℕ → ℕ → ℤ
raw_number e octets at = number_of_sort e.sort e.width (field_number e.order octets at e.width)

-- whether so many bits from a place on are in the octets
abbrev pub is_inside : List ℕ → ℕ → ℕ → Bool
is_inside octets at width = nat_le (at + width) (8 * length octets)
