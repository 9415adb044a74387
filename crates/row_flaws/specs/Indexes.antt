-- What is noted of the keys of rows: the first place of each. [This profile.]
use Rattle.std.specs.Prelude.{ℕ, nat_lt, Bool, List, Option, Some, None, position, if◌then◌else◌}
use Rattle.std.specs.Option.{option_eq}

-- whether a row's key is this key
abbrev pub has_by : {K : Type 0} → (K → K → Bool) → K → Option K → Bool
has_by eq q key = option_eq eq key (Some q)

-- the first place, from 0, of a row with this key
abbrev pub first_place : {K R : Type 0} → (K → K → Bool) → (R → Option K) → List R → K → Option ℕ
first_place eq key rows q = position (λ row. has_by eq q (key row)) rows

-- a place, where it is before another
abbrev pub cut : ℕ → Option ℕ → Option ℕ
cut n None = None
cut n (Some i) = if nat_lt i n then Some i else None
