-- Texts cut into lines, and lines into fields. [This profile: LF ends a line, TAB parts two fields.]
use Rattle.std.specs.Prelude.{ℕ, ◌-◌, Bool, List, [], ◌∷◌, length, reverse, map, filter, unwrap_or, slice_get, ◌==◌, not, if◌then◌else◌}
use Rattle.std.specs.List.{slice_split}
use Rattle.std.specs.Str.Lines.{strip_carriage_return}

-- an LF
abbrev pub is_feed : ℕ → Bool
is_feed octet = octet == 10

-- a TAB
abbrev pub is_tab : ℕ → Bool
is_tab octet = octet == 9

-- the lines of pieces: each without the one CR at its end, and none that is then empty
unfoldable pub lines_of : List (List ℕ) → List (List ℕ)
lines_of pieces = filter (λ line. not (length line == 0)) (map strip_carriage_return pieces)

-- the lines of a text: what stands between its LF octets
abbrev pub lines : List ℕ → List (List ℕ)
lines text = lines_of (slice_split is_feed text)

-- the fields of a line: what stands between its TAB octets
abbrev pub fields : List ℕ → List (List ℕ)
fields line = slice_split is_tab line

-- the field at a place, counted from 1: empty where the line has none
abbrev pub field_at : List (List ℕ) → ℕ → List ℕ
field_at row place = unwrap_or (slice_get row (place - 1)) []

-- octets without the spaces in front of them
abbrev pub without_front : List ℕ → List ℕ
without_front [] = []
without_front (octet ∷ rest) = if octet == 32 then without_front rest else octet ∷ rest

-- octets without the spaces at both ends
unfoldable pub trimmed : List ℕ → List ℕ
trimmed octets = reverse (without_front (reverse (without_front octets)))
