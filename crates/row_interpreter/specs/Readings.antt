-- Values that are read place by place. [This profile.]
use Rattle.std.specs.Prelude.{◌≡◌, ℕ, ◌+◌, true, List, [], ◌∷◌, ◌++◌, length, Option, Some, None, ◌==◌, if◌then◌else◌}
use Rattle.mib_model.specs.declared.packet.Ended.{Ended}
use Rattle.mib_model.specs.declared.packet.Ended.TheVariants.{Whole, Short, Many}
use Rattle.mib_model.specs.declared.packet.Value.{Value}
use Rattle.mib_model.specs.declared.rows.PcfRow.{PcfRow}
use Rattle.mib_model.specs.declared.rows.PlfRow.{PlfRow}
use Rattle.mib_model.specs.Bits.{is_inside, raw_number}
use Rattle.mib_model.specs.Fixed.{Place, most_values, holds_place, value_at, occurrences}
use Rattle.mib_model.specs.Parameters.{parameter, measured_encoding}
use Rattle.std.specs.List.{flat_map}

-- values and how they end
abbrev pub Read : Type 0
Read = List Value × Ended

-- what else was read, behind values
abbrev pub behind : List Value → Read → Read
behind values read = (values ++ read.0, read.1)

-- the values at places behind so many values, and how they end
unfoldable pub read_from : List ℕ → ℕ → List Place → Read
read_from packet given [] = ([], Whole)
read_from packet given (place ∷ places) =
    if given == most_values then ([], Many)
    else if holds_place packet place then behind (value_at packet place ∷ []) (read_from packet (given + 1) places)
    else ([], Short place.name)

-- all that is read where some values stand: the places that are left give theirs, unless the values have ended
abbrev pub all_read : List ℕ → Option Ended → List Value → List Place → Read
all_read packet None values rest = behind values (read_from packet (length values) rest)
all_read packet (Some ended) values rest = (values, ended)

-- behind the old values these places were read, to their end or to an earlier one
abbrev pub Reads : List ℕ → List Place → Option Ended → List Value → List Value → Type 0
Reads packet places ended old new = (rest : List Place) → all_read packet None old (places ++ rest) ≡ all_read packet ended new rest

-- the places of rows
abbrev pub places_of : List PcfRow → List PlfRow → List Place
places_of pcfs = flat_map (λ row. occurrences row (measured_encoding (parameter pcfs row.name)))

-- a value has the number that its bits in a packet are
pub record IsOf (packet : List ℕ) (v : Value) : Type 0 where
  pub inside : is_inside packet v.at v.shape.width ≡ true
  pub number : v.raw ≡ raw_number v.shape packet v.at
