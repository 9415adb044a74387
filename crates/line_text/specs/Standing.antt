-- Octets that stand as themselves in quotes. [This profile.]
use Rattle.std.specs.Prelude.{◌≡◌, ◌≤◌, ◌<◌, ℕ, List, get_or, true}
use Rattle.mib_model.specs.RawTexts.{stands_as_itself}

-- each octet from a place up to another stands as itself
abbrev pub StandBetween : List ℕ → ℕ → ℕ → Type 0
StandBetween octets from to = (k : ℕ) → from ≤ k → k < to → stands_as_itself (get_or octets k 0) ≡ true
