-- How much of a source, and of a file, is read. [This profile.]
use Rattle.std.specs.Prelude.{◌≤◌, ◌⊎◌, ℕ, List, length, Option, Some, Result, Ok, Err, IfSome}
use Rattle.std.specs.Io.KnownBytes.{Consumes}
use Rattle.tm_io.specs.Causes.{HasRisen}

-- of what a source had left a first part of at most so many octets was read
abbrev pub ConsumesAtMost : ℕ → Option (List ℕ) → Option (List ℕ) → Type 0
ConsumesAtMost most old new = (part : List ℕ) × (length part ≤ most) × Consumes old new part

-- of the file of that name, where a shelf tells it, a first part of at most so many octets was read, and this is left
abbrev pub ReadsPart : ℕ → Option (List ℕ → Option (List ℕ)) → List ℕ → Option (List ℕ) → Type 0
ReadsPart most holds name left = IfSome holds (λ files. IfSome (files name) (λ octets. ConsumesAtMost most (Some octets) left))

-- behind each answer only such a part was read; behind an error the turn to the file may be what failed, as the count of such turns tells
abbrev pub EndsInPart : {T E : Type 0} → Result T E → ℕ → Option (List ℕ → Option (List ℕ)) → List ℕ → Option (List ℕ) → ℕ → ℕ → Type 0
EndsInPart (Ok made) most holds name left before now = ReadsPart most holds name left
EndsInPart (Err fault) most holds name left before now = HasRisen before now ⊎ ReadsPart most holds name left
