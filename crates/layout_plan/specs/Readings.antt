-- Reading values place by place: what is left to be read behind those that stand. [This profile.]
use Rattle.std.specs.Prelude.{◌≡◌, ℕ, ◌+◌, List, [], ◌∷◌, ◌++◌, Option, Some, None, ◌==◌, if◌then◌else◌}
use Rattle.mib_model.specs.declared.packet.Ended.{Ended}
use Rattle.mib_model.specs.declared.packet.Ended.TheVariants.{Whole, Short, Many}
use Rattle.mib_model.specs.declared.packet.Value.{Value}
use Rattle.mib_model.specs.Fixed.{Place, most_values, holds_place, value_at}
use Rattle.bit_field.specs.declared.values.Values.{Values}
use Rattle.bit_field.specs.Taken.{taken}

-- values and how they end
abbrev pub Read : Type 0
Read = List Value × Ended

-- some values, and behind them what else was read
abbrev pub behind : List Value → Read → Read
behind values read = (values ++ read.0, read.1)

-- the values at places behind so many values, and how they end
unfoldable pub read_from : List ℕ → ℕ → List Place → Read
read_from packet given [] = ([], Whole)
read_from packet given (place ∷ places) =
    if given == most_values then ([], Many)
    else if holds_place packet place then behind (value_at packet place ∷ []) (read_from packet (given + 1) places)
    else ([], Short place.name)

-- all that is read where values stand: the rest of the places is still to be read, unless they have ended
abbrev pub whole_read : List ℕ → Option Ended → List Value → ℕ → List Place → Read
whole_read packet None values given rest = behind values (read_from packet given rest)
whole_read packet (Some ended) values given rest = (values, ended)

-- from the values before to those now these places were read, to their end or to an earlier one
abbrev pub Reads : List ℕ → List Place → Option Ended → Values → Values → Type 0
Reads packet places ended old new =
    (rest : List Place) → whole_read packet None (taken old) old.used (places ++ rest) ≡ whole_read packet ended (taken new) new.used rest
