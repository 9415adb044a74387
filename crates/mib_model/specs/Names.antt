-- Names and texts of the database. [This profile, after the SCOS-2000 Database Import ICD.]
use Rattle.std.specs.Prelude.{ℕ, Bool, List, length, Option, Some, None, nat_le, ◌&&◌, if◌then◌else◌}
use Rattle.std.specs.List.{list_all}
use Rattle.mib_model.specs.declared.limits.TheConstants.{NAME_SIZE, TEXT_SIZE}

-- an octet from 21 to 7E in hexadecimal: visible ASCII, and no space
abbrev pub is_visible : ℕ → Bool
is_visible octet = nat_le 0x21 octet && nat_le octet 0x7E

-- visible octets: 1, or up to the size of a name
abbrev pub is_name : List ℕ → Bool
is_name octets = nat_le 1 (length octets) && nat_le (length octets) NAME_SIZE && list_all is_visible octets

-- the name that octets are, if they are one
abbrev pub name_of : List ℕ → Option (List ℕ)
name_of octets = if is_name octets then Some octets else None

-- octets of any value, up to the size of a text
abbrev pub is_text : List ℕ → Bool
is_text octets = nat_le (length octets) TEXT_SIZE

-- the text that octets are, if they are one
abbrev pub text_of : List ℕ → Option (List ℕ)
text_of octets = if is_text octets then Some octets else None
