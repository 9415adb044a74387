-- What a map from keys to rows has for a key.
use Rattle.std.specs.Prelude.{List, [], Option, Some, None}

-- the rows that stand there; none where there is no entry
abbrev pub rows_of : {R : Type 0} → Option (List R) → List R
rows_of None = []
rows_of (Some rows) = rows
