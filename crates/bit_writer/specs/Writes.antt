-- The bits that numbers are written into. [CCSDS 133.0-B and ECSS-E-70-41A number bits from the most significant of the first
-- octet; the order Little is this profile's.]
use Rattle.std.specs.Prelude.{ℕ, zero, suc, max, fold, ◌+◌, ◌-◌, ◌*◌, ◌/◌, ◌%◌, ◌^◌, Bool, List, map, nat_le, nat_lt, ◌==◌, ◌&&◌, if◌then◌else◌, Option}
use Rattle.std.specs.List.{find, list_any, range_with_len}
use Rattle.mib_model.specs.declared.shape.Order.{Order}
use Rattle.mib_model.specs.declared.shape.Order.TheVariants.{Big, Little}
use Rattle.bit_writer.specs.declared.write.Write.{Write}

-- which bit of its number a field has so many bits behind its first, the least significant being 0
abbrev pub bit_there : Order → ℕ → ℕ → ℕ
bit_there Big width i = width - suc i
bit_there Little width i = 8 * (i / 8) + (7 - i % 8)

-- the bit that a write has so many bits behind its first
abbrev pub bit_behind : Write → ℕ → ℕ
bit_behind w i = w.number / 2 ^ bit_there w.order w.width i % 2

-- whether a write has a bit of a packet
abbrev pub covers : ℕ → Write → Bool
covers j w = nat_le w.at j && nat_lt j (w.at + w.width)

-- whether a write sets a bit of a packet to this
abbrev pub sets : ℕ → ℕ → Write → Bool
sets bit j w = covers j w && (bit_behind w (j - w.at) == bit)

-- whether one of some writes does
abbrev pub is_set : ℕ → List Write → ℕ → Bool
is_set bit writes j = list_any (sets bit j) writes

-- the least bit of so many octets that one write sets to 1 and another to 0
unfoldable pub first_clash : List Write → ℕ → Option ℕ
first_clash writes octets = find (λ j. is_set 1 writes j && is_set 0 writes j) (range_with_len 0 (8 * octets))

-- the bit that writes leave: 0 where none of them sets it to 1
abbrev pub bit_left : List Write → ℕ → ℕ
bit_left writes j = if is_set 1 writes j then 1 else 0

-- the number of so many bits, the most significant first
unfoldable pub number_of : (ℕ → ℕ) → ℕ → ℕ
number_of bit_at zero = 0
number_of bit_at (suc n) = 2 * number_of bit_at n + bit_at n

-- an octet that writes leave
abbrev pub octet_left : List Write → ℕ → ℕ
octet_left writes k = number_of (λ i. bit_left writes (8 * k + i)) 8

-- the octets up to the last of a write
abbrev pub octets_to : Write → ℕ
octets_to w = (w.at + w.width + 7) / 8

-- the octets that hold some writes, and no fewer than so many
abbrev pub octets_for : ℕ → List Write → ℕ
octets_for least writes = fold (λ octets w. max octets (octets_to w)) least writes

-- so many octets that writes leave
unfoldable pub octets_left : List Write → ℕ → List ℕ
octets_left writes octets = map (octet_left writes) (range_with_len 0 octets)
