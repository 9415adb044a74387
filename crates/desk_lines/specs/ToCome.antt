-- What is still to come of a script that was read in part. [This profile.]
use Rattle.std.specs.Prelude.{◌≡◌, ◌⊎◌, ℕ, ◌≤◌, ◌+◌, ◌-◌, Bool, false, List, ◌++◌, length, take, nat_le, ◌==◌, ◌||◌, if◌then◌else◌}
use Rattle.std.specs.List.{All}
use Rattle.mib_model.specs.Lines.{is_feed}
use Rattle.run_model.specs.Script.{most_script, most_lines, whole_pieces, last_piece, rest_line}

-- how far a script was read: the lines that were given, and the octets that were taken
pub record Reading : Type 0 where
  pub lines : ℕ
  pub octets : ℕ

-- nothing was read
abbrev pub reading_start : Reading
reading_start = record { lines = 0; octets = 0 }

-- whether what was taken and what is left make as many octets as are taken of a script
abbrev pub is_filled : ℕ → List ℕ → Bool
is_filled taken left = nat_le most_script (taken + length left)

-- no more was read than is taken of a script
abbrev pub IsWithin : Reading → Type 0
IsWithin read = (read.lines ≤ most_lines) × (read.octets ≤ most_script)

-- as many lines or as many octets were read as are taken of a script
abbrev pub IsAtLimit : Reading → Type 0
IsAtLimit read = (read.lines ≡ most_lines) ⊎ (read.octets ≡ most_script)

-- the lines of what is left behind so many octets
abbrev pub lines_behind : ℕ → List ℕ → List (List ℕ)
lines_behind taken left = if is_filled taken left then whole_pieces (take (most_script - taken) left) else whole_pieces left ++ rest_line (last_piece left)

-- the lines that are still to come
unfoldable pub still : Reading → List ℕ → List (List ℕ)
still reading left = take (most_lines - reading.lines) (lines_behind reading.octets left)

-- whether the limit will be reached
unfoldable pub meets_limit : Reading → List ℕ → Bool
meets_limit reading left = is_filled reading.octets left || (reading.lines + length (still reading left) == most_lines)

-- octets without an LF
abbrev pub HasNoFeed : List ℕ → Type 0
HasNoFeed octets = All (λ octet. is_feed octet ≡ false) octets
