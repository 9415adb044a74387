-- What a sink takes of a piece.
use Rattle.std.specs.Prelude.{ℕ, ◌<◌, Bool, true, false, List, length, take, Option, Result, IfOk}
use Rattle.std.specs.Io.KnownBytes.{Appends}

-- of a piece that isn't empty at least one octet is taken
abbrev pub TakesSome : {E : Type 0} → Result ℕ E → List ℕ → Type 0
TakesSome result piece = 0 < length piece → IfOk result (λ count. 0 < count)

-- some first octets were appended, and nothing else
abbrev pub AppendsPrefix : Option (List ℕ) → Option (List ℕ) → List ℕ → Type 0
AppendsPrefix old new octets = (count : ℕ) × Appends old new (take count octets)

-- some first octets were appended, not all, and nothing else
abbrev pub AppendsPart : Option (List ℕ) → Option (List ℕ) → List ℕ → Type 0
AppendsPart old new octets = (count : ℕ) × (count < length octets) × Appends old new (take count octets)

-- all of a text was written, or where writing failed a first part of it
abbrev pub WritesUnless : Bool → Option (List ℕ) → Option (List ℕ) → List ℕ → Type 0
WritesUnless false old new text = Appends old new text
WritesUnless true old new text = AppendsPrefix old new text
