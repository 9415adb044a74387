-- What the definitions of an audit come to. [This profile.]
use Rattle.std.specs.Prelude.{◌≡◌, ℕ, List, None}
use Rattle.tm_audit.specs.TextLines.{first_apart, parting, text_lines}

-- texts are one where no line of theirs differs
abbrev pub AloneIsSame : Type 0
AloneIsSame = (text other : List ℕ) → first_apart 1 (text_lines text) (text_lines other) ≡ None → text ≡ other

-- the first line that differs is the one in which the first octet does
abbrev pub PartsInLine : Type 0
PartsInLine = (text other : List ℕ) → first_apart 1 (text_lines text) (text_lines other) ≡ parting 1 text other
