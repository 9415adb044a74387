-- The lines of a desk's script. [This profile.]
use Rattle.std.specs.Prelude.{ℕ, ◌-◌, ◌^◌, Bool, List, [], ◌∷◌, ◌++◌, length, take, nat_le, ◌==◌, ◌||◌, if◌then◌else◌}
use Rattle.std.specs.List.{slice_split, last_or}
use Rattle.std.specs.Prelude.{unwrap_or, None}
use Rattle.mib_model.specs.Lines.{is_feed}

-- the most octets of a script that are taken
abbrev pub most_script : ℕ
most_script = 2 ^ 30

-- the most lines of a script that are taken
abbrev pub most_lines : ℕ
most_lines = 1000000

-- the pieces of a script that end with an LF
abbrev pub whole_pieces : List ℕ → List (List ℕ)
whole_pieces octets = take (length (slice_split is_feed octets) - 1) (slice_split is_feed octets)

-- what stands behind the last LF
abbrev pub last_piece : List ℕ → List ℕ
last_piece octets = unwrap_or (last_or None (slice_split is_feed octets)) []

-- the line that a rest is: none where it is empty
abbrev pub rest_line : List ℕ → List (List ℕ)
rest_line [] = []
rest_line (c ∷ cs) = (c ∷ cs) ∷ []

-- the script has as many octets as are taken
abbrev pub is_full : List ℕ → Bool
is_full octets = nat_le most_script (length octets)

-- all lines: of a script that is full, those whose LF is among the octets that are taken
abbrev pub all_lines : List ℕ → List (List ℕ)
all_lines octets = if is_full octets then whole_pieces (take most_script octets) else whole_pieces octets ++ rest_line (last_piece octets)

-- the lines that are taken
unfoldable pub script : List ℕ → List (List ℕ)
script octets = take most_lines (all_lines octets)

-- the limit is reached: so many octets are there, or so many lines were taken
unfoldable pub reaches_limit : List ℕ → Bool
reaches_limit octets = is_full octets || (length (script octets) == most_lines)
