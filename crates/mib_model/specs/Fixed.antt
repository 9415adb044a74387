-- The values of a packet of fixed layout. [SCOS-2000 Database Import ICD, plf; the order, the occurrences and the ends are this profile's.]
use Rattle.std.specs.Prelude.{ℕ, pos, int_lt, ◌+◌, ◌*◌, Bool, List, [], ◌∷◌, map, length, take, drop, filter, ◌==◌, if◌then◌else◌, Option, Some, None}
use Rattle.std.specs.List.{flat_map, range_with_len, take_while}
use Rattle.mib_model.specs.declared.rows.PlfRow.{PlfRow}
use Rattle.mib_model.specs.declared.rows.PidRow.{PidRow}
use Rattle.mib_model.specs.declared.packet.Ended.{Ended}
use Rattle.mib_model.specs.declared.packet.Ended.TheVariants.{Whole, Short, Many}
use Rattle.mib_model.specs.declared.packet.Value.{Value}
use Rattle.mib_model.specs.Bits.{raw_number, is_inside}
use Rattle.mib_model.specs.Database.{Database}
use Rattle.mib_model.specs.Encodings.{Encoding}
use Rattle.mib_model.specs.Parameters.{parameter, measured_encoding}
use Rattle.mib_model.specs.declared.limits.TheConstants.{MOST_VALUES}

-- the most values of a packet
abbrev pub most_values : ℕ
most_values = MOST_VALUES

-- a packet has a fixed layout where it names no structure: TPSD below 1
abbrev pub has_layout : PidRow → Bool
has_layout row = int_lt row.tpsd (pos 1)

-- where a value of a parameter stands: its first bit, and what its bits are
pub record Place : Type 0 where
  pub name : List ℕ
  pub at : ℕ
  pub shape : Encoding

-- the k-th occurrence of a row, k from 0 on
abbrev pub occurrence : PlfRow → Encoding → ℕ → Place
occurrence row shape k = record { name = row.name; at = 8 * row.offby + row.offbi + k * row.lgocc; shape = shape }

-- all occurrences of a row whose parameter is measured
abbrev pub occurrences : PlfRow → Option Encoding → List Place
occurrences row None = []
occurrences row (Some shape) = map (occurrence row shape) (range_with_len 0 row.nbocc)

-- the places of a packet's values, in the order of the rows
unfoldable pub places : Database → ℕ → List Place
places db spid =
    flat_map (λ row. occurrences row (measured_encoding (parameter db.pcf row.name))) (filter (λ row. row.spid == spid) db.plf)

-- whether the bits of a place are in a packet
abbrev pub holds_place : List ℕ → Place → Bool
holds_place packet place = is_inside packet place.at place.shape.width

-- the longest front of at most so many places whose bits are all in the packet
unfoldable pub places_inside : List ℕ → List Place → List Place
places_inside packet all = take_while (holds_place packet) (take most_values all)

-- the value at a place
abbrev pub value_at : List ℕ → Place → Value
value_at packet place = record { name = place.name; at = place.at; raw = raw_number place.shape packet place.at; shape = place.shape }

-- how values end that stop before these places, after so many
abbrev pub ended_before : ℕ → List Place → Ended
ended_before given [] = Whole
ended_before given (next ∷ more) = if given == most_values then Many else Short next.name

-- the values of a packet with these places, and how they end
unfoldable pub values_at : List ℕ → List Place → List Value × Ended
values_at packet all = (
  map (value_at packet) (places_inside packet all),
  ended_before (length (places_inside packet all)) (drop (length (places_inside packet all)) all),
)

-- the values of a packet of fixed layout, and how they end
abbrev pub fixed_values : Database → ℕ → List ℕ → List Value × Ended
fixed_values db spid packet = values_at packet (places db spid)
