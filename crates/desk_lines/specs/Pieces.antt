-- What is taken of a source for one line. [This profile.]
use Rattle.std.specs.Prelude.{◌≡◌, ℕ, ◌<◌, ◌≤◌, List, [], ◌∷◌, ◌++◌, length, take, Option, Result, MatchOption, MatchResult}
use Rattle.std.specs.Io.KnownBytes.{Consumes, IsAtEnd}
use Rattle.tm_io.specs.Causes.{Rose}
use Rattle.desk_lines.specs.declared.piece.ScriptPiece.{ScriptPiece}
use Rattle.desk_lines.specs.declared.piece.PieceEnd.{PieceEnd}
use Rattle.desk_lines.specs.declared.piece.PieceEnd.TheVariants as end
use Rattle.desk_lines.specs.ToCome.{HasNoFeed}

-- the next octet was taken, or none is left; where the source fails, none was taken
abbrev pub TakesOctet : {F : Type 0} → Result (Option ℕ) F → Option (List ℕ) → Option (List ℕ) → Type 0
TakesOctet result old new =
    MatchResult result (λ next. MatchOption next (Consumes old new [] × IsAtEnd new) (λ c. Consumes old new (c ∷ []))) (λ _. Consumes old new [])

-- what was taken of a line's octets, and why no more were: with its LF, all that was left, as many as there is room for, or those before a fault
abbrev pub Ends : PieceEnd → List ℕ → ℕ → Option (List ℕ) → Option (List ℕ) → Type 0
Ends end.Feed part room old new = (length part < room) × Consumes old new (part ++ 10 ∷ [])
Ends end.Source part room old new = (length part < room) × Consumes old new part × IsAtEnd new
Ends end.Room part room old new = (length part ≡ room) × Consumes old new part
Ends end.Failed part room old new = Consumes old new part

-- octets of one line were taken, and the first of them stand at the front of the buffer
pub record TakesPiece (piece : ScriptPiece) (room : ℕ) (old new : Option (List ℕ)) (buffer : List ℕ) : Type 0 where
  pub part : List ℕ
  pub no_feed : HasNoFeed part
  pub count : length part ≡ piece.octets
  pub fits : piece.octets ≤ room
  pub front : take (length buffer) part ≡ take piece.octets buffer
  pub ends : Ends piece.end part room old new

-- the count of faults rose where the source failed, and else stays as it was
abbrev pub HasPieceCause : PieceEnd → ℕ → ℕ → Type 0
HasPieceCause end.Failed before now = (before ≤ now) × Rose before now
HasPieceCause end.Feed before now = now ≡ before
HasPieceCause end.Source before now = now ≡ before
HasPieceCause end.Room before now = now ≡ before
