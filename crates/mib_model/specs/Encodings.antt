-- What the bits of a parameter's values are, by the parameter's type and format codes and its octet order.
-- [After the parameter types of ECSS-E-70-41A, PTC and PFC; the widths and sorts are this profile's.]
use Rattle.std.specs.Prelude.{◌≡◌, ℕ, ◌+◌, ◌*◌, ◌/◌, ◌%◌, Bool, true, false, Option, Some, None, option_map, option_and_then, nat_le, ◌==◌, ◌&&◌, not, if◌then◌else◌}
use Rattle.mib_model.specs.declared.shape.Sort.{Sort}
use Rattle.mib_model.specs.declared.shape.Sort.TheVariants.{Unsigned, Signed, Real, Octets, Chars, Cds, Cuc, Deduced}
use Rattle.mib_model.specs.declared.shape.Order.{Order}
use Rattle.mib_model.specs.declared.shape.Order.TheVariants.{Big, Little}
use Rattle.mib_model.specs.declared.shape.Endian.{Endian}
use Rattle.mib_model.specs.declared.shape.Endian.TheVariants as endian

-- a sort, a width in bits, and the order of the octets
pub record Encoding : Type 0 where
  pub sort : Sort
  pub width : ℕ
  pub order : Order

-- a width where a condition holds
abbrev pub width_if : Bool → ℕ → Option ℕ
width_if holds width = if holds then Some width else None

-- from a least to a greatest number
abbrev pub is_from_to : ℕ → ℕ → ℕ → Bool
is_from_to low high n = nat_le low n && nat_le n high

-- the widths of unsigned and signed integers
abbrev pub integer_width : ℕ → Option ℕ
integer_width pfc =
    if nat_le pfc 12 then Some (pfc + 4)
    else if pfc == 13 then Some 24
    else if pfc == 14 then Some 32
    else if pfc == 15 then Some 48
    else width_if (pfc == 16) 64

-- the widths of real numbers
abbrev pub real_width : ℕ → Option ℕ
real_width pfc =
    if pfc == 1 then Some 32
    else if pfc == 2 then Some 64
    else if pfc == 3 then Some 32
    else width_if (pfc == 4) 48

-- a sort of some width
abbrev pub sorted_as : Sort → Option ℕ → Option (Sort × ℕ)
sorted_as sort = option_map (λ width. (sort, width))

-- a time of so many coarse and so many fine octets
abbrev pub coarse_and_fine : ℕ → ℕ → Option (Sort × ℕ)
coarse_and_fine coarse fine = Some (Cuc coarse fine, 8 * (coarse + fine))

-- a time in coarse and fine octets: for PFC 3 to 18 PFC + 1 is 4 times the coarse octets, and the fine ones over
abbrev pub unsegmented_time : ℕ → Option (Sort × ℕ)
unsegmented_time pfc = if is_from_to 3 18 pfc then coarse_and_fine ((pfc + 1) / 4) ((pfc + 1) % 4) else None

-- an absolute time: days and milliseconds, or coarse and fine octets
abbrev pub absolute_time : ℕ → Option (Sort × ℕ)
absolute_time pfc =
    if pfc == 1 then Some (Cds, 48)
    else if pfc == 2 then Some (Cds, 64)
    else unsegmented_time pfc

-- the sort and the width of a type code and a format code
unfoldable pub type_of : ℕ → ℕ → Option (Sort × ℕ)
type_of ptc pfc =
    if ptc == 1 then sorted_as Unsigned (width_if (pfc == 0) 1)
    else if ptc == 2 then sorted_as Unsigned (width_if (is_from_to 1 32 pfc) pfc)
    else if ptc == 3 then sorted_as Unsigned (integer_width pfc)
    else if ptc == 4 then sorted_as Signed (integer_width pfc)
    else if ptc == 5 then sorted_as Real (real_width pfc)
    else if ptc == 6 then sorted_as Unsigned (width_if (is_from_to 1 64 pfc) pfc)
    else if ptc == 7 then sorted_as Octets (width_if (is_from_to 1 1024 pfc) (8 * pfc))
    else if ptc == 8 then sorted_as Chars (width_if (is_from_to 1 1024 pfc) (8 * pfc))
    else if ptc == 9 then absolute_time pfc
    else if ptc == 10 then unsegmented_time pfc
    else sorted_as Deduced (width_if (ptc == 11 && pfc == 0) 0)

-- the sorts whose octets may stand the other way round
abbrev pub may_be_little : Sort → Bool
may_be_little Unsigned = true
may_be_little Signed = true
may_be_little Real = true
may_be_little other = false

-- an encoding with the octets in the order that is asked for: whole octets alone can be turned round
abbrev pub ordered : Endian → Sort × ℕ → Option Encoding
ordered endian.B typed = Some (record { sort = typed.0; width = typed.1; order = Big })
ordered endian.L typed =
    if not (may_be_little typed.0) then Some (record { sort = typed.0; width = typed.1; order = Big })
    else if typed.1 % 8 == 0 then Some (record { sort = typed.0; width = typed.1; order = Little })
    else None

-- the encoding of a type code, a format code and an octet order, if there is one
unfoldable pub encoding_of : ℕ → ℕ → Endian → Option Encoding
encoding_of ptc pfc endian = option_and_then (ordered endian) (type_of ptc pfc)

-- an encoding that some type has
abbrev pub IsEncoding : Encoding → Type 0
IsEncoding e = (ptc : ℕ) × (pfc : ℕ) × (endian : Endian) × (encoding_of ptc pfc endian ≡ Some e)
