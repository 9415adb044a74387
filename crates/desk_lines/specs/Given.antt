-- How many lines octets of a script give. [This profile.]
use Rattle.std.specs.Prelude.{◌⊎◌, ℕ, ◌≤◌, ◌+◌, List, length, Option}
use Rattle.std.specs.Io.KnownBytes.{IsAtEnd}
use Rattle.run_model.specs.Script.{whole_pieces}

-- how many lines end among octets, by their LF
abbrev pub lines_given : List ℕ → ℕ
lines_given octets = length (whole_pieces octets)

-- no more lines were handled than were given, but for one at the script's end that no LF ends
abbrev pub IsUpTo : List ℕ → Option (List ℕ) → List (List ℕ) → Type 0
IsUpTo given behind handled = (length handled ≤ lines_given given) ⊎ ((length handled ≤ lines_given given + 1) × IsAtEnd behind)
