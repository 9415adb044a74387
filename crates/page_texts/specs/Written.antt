-- What of a text is written before the rest of it. [This project's own words.]
use Rattle.std.specs.Prelude.{◌≡◌, ℕ, List, ◌++◌, Option}
use Rattle.std.specs.Io.KnownBytes.{Appends}

-- some first octets were written, and these others are left
abbrev pub Passes : Option (List ℕ) → Option (List ℕ) → List ℕ → List ℕ → Type 0
Passes old new octets left = (sent : List ℕ) × Appends old new sent × (octets ≡ sent ++ left)
