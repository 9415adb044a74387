-- Rows that are like each other: by their keys, and packets also by their kinds. [This profile.]
use Rattle.std.specs.Prelude.{◌≡◌, ◌||◌, ℕ, Bool, false, List, Option, Some, None, position}
use Rattle.mib_model.specs.contracts.key.KeyPartialEq.TheImpl as eq
use Rattle.mib_model.specs.declared.key.Key.{Key}
use Rattle.mib_model.specs.declared.rows.PidRow.{PidRow}
use Rattle.mib_model.specs.declared.rows.Row.{Row}
use Rattle.mib_model.specs.Keys.{key_in}
use Rattle.mib_model.specs.TypedRows.{as_pid}
use Rattle.packet_keys.specs.Keys.{packet_eq, packet_key}

-- `==` of keys
abbrev pub key_eq : Key → Key → Bool
key_eq = eq.ghosts.eq

-- a row that has the key of a row
abbrev pub has_its_key : Row → Row → Bool
has_its_key r other = key_eq (key_in other) (key_in r)

-- packets of one kind, if both are there
abbrev pub are_of_a_kind : Option PidRow → Option PidRow → Bool
are_of_a_kind (Some p) (Some other) = packet_eq (packet_key other) (packet_key p)
are_of_a_kind (Some p) None = false
are_of_a_kind None other = false

-- a packet of the kind of a packet
abbrev pub has_its_kind : Row → Row → Bool
has_its_kind r other = are_of_a_kind (as_pid r) (as_pid other)

-- a row that repeats a row: by its key, or a packet by its kind
abbrev pub is_like : Row → Row → Bool
is_like r other = has_its_key r other || has_its_kind r other

-- the first place of each key among rows
abbrev pub AreKeyPlaces : (Key → Option ℕ) → List Row → Type 0
AreKeyPlaces noted rows = (q : Key) → noted q ≡ position (λ r. key_eq (key_in r) q) rows
