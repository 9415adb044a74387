-- What a reader gives of a script: its lines, and then its end or its limit. [This profile.]
use Rattle.std.specs.Prelude.{◌≡◌, ◌⊎◌, ℕ, ◌+◌, ◌<◌, ◌≤◌, Bool, true, false, List, [], ◌∷◌, ◌++◌, length, take, Option, IfSome, nat_le, ⊤, if◌then◌else◌}
use Rattle.std.specs.Io.KnownBytes.{Consumes, IsAtEnd}
use Rattle.tm_io.specs.Causes.{Rose}
use Rattle.desk_lines.specs.declared.next_line.NextLine.{NextLine}
use Rattle.desk_lines.specs.declared.next_line.NextLine.TheVariants as next_line
use Rattle.desk_lines.specs.ToCome.{Reading, IsAtLimit, still, meets_limit, HasNoFeed}

-- the answer for a line of so many octets
abbrev pub line_of : ℕ → NextLine
line_of octets = if nat_le 4097 octets then next_line.TooLong else next_line.Line octets

-- what is taken for a line: its octets and an LF, or its octets alone, where no more are left
abbrev pub IsTakenFor : List ℕ → List ℕ → Option (List ℕ) → Type 0
IsTakenFor line taken new = (taken ≡ line ++ 10 ∷ []) ⊎ ((taken ≡ line) × IsAtEnd new)

-- a line was taken, the first of those that were still to come
pub record TakesLine (was now : Reading) (old new : Option (List ℕ)) (line : List ℕ) : Type 0 where
  pub no_feed : HasNoFeed line
  pub taken : List ℕ
  pub is_taken : IsTakenFor line taken new
  pub consumed : Consumes old new taken
  pub counted : now ≡ record { lines = was.lines + 1; octets = was.octets + length taken }
  pub first : IfSome old (λ left. IfSome new (λ behind. still was left ≡ line ∷ still now behind))
  pub limit : IfSome old (λ left. IfSome new (λ behind. meets_limit was left ≡ meets_limit now behind))

-- octets of a line were taken, and no LF
pub record TakesPart (was now : Reading) (old new : Option (List ℕ)) : Type 0 where
  pub part : List ℕ
  pub no_feed : HasNoFeed part
  pub consumed : Consumes old new part
  pub counted : now ≡ record was { octets = was.octets + length part }

-- no line was still to come, and the limit was ahead or was not
pub record NoneComes (limit : Bool) (was : Reading) (left : List ℕ) : Type 0 where
  pub none : still was left ≡ []
  pub limited : meets_limit was left ≡ limit

-- what an answer says of the script that was left and is left now, of how far it was read, and of the buffer: the line that comes
-- next stands at the front of the buffer, or its first octets do; nothing was left; no line was still to come, since the limit is reached;
-- before a fault no line was taken
abbrev pub Gives : NextLine → Reading → Reading → Option (List ℕ) → Option (List ℕ) → List ℕ → Type 0
Gives (next_line.Line count) was now old new buffer = (count ≤ 4096) × (length (take count buffer) ≡ count) × TakesLine was now old new (take count buffer)
Gives next_line.TooLong was now old new buffer = (line : List ℕ) × (4096 < length line) × (buffer ≡ take 4097 line) × TakesLine was now old new line
Gives next_line.End was now old new buffer = Consumes old new [] × IsAtEnd new × (now ≡ was) × IfSome old (NoneComes false was)
Gives next_line.Limit was now old new buffer = TakesPart was now old new × IfSome old (NoneComes true was)
Gives next_line.Failed was now old new buffer = TakesPart was now old new

-- the answer is the limit only where as much was read as is taken
abbrev pub HasLimit : NextLine → Reading → Type 0
HasLimit next_line.Limit now = IsAtLimit now
HasLimit next_line.Failed now = ⊤
HasLimit (next_line.Line count) now = ⊤
HasLimit next_line.TooLong now = ⊤
HasLimit next_line.End now = ⊤

-- the count of faults rose where the answer is a failure, and stays as it was where it is another
abbrev pub HasNextCause : NextLine → ℕ → ℕ → Type 0
HasNextCause next_line.Failed before now = (before ≤ now) × Rose before now
HasNextCause (next_line.Line count) before now = now ≡ before
HasNextCause next_line.TooLong before now = now ≡ before
HasNextCause next_line.End before now = now ≡ before
HasNextCause next_line.Limit before now = now ≡ before
