-- Groups that are still to be repeated, and the rows that are still to be walked with them. [This profile.]
use Rattle.std.specs.Prelude.{ℕ, ◌+◌, ◌-◌, ◌<◌, ◌≤◌, ℤ, min, nat_lt, List, [], ◌∷◌, ◌++◌, take, drop, length, ◌==◌, if◌then◌else◌}
use Rattle.std.specs.List.{repeat}
use Rattle.mib_model.specs.declared.rows.VpdRow.{VpdRow}
use Rattle.mib_model.specs.Fixed.{most_values}
use Rattle.mib_model.specs.Structures.{times}
use Rattle.struct_plan.specs.declared.group.RowGroup.{RowGroup}

-- how many rows the group of the first row has
abbrev pub first_size : List VpdRow → ℕ
first_size [] = 0
first_size (row ∷ rows) = row.grpsize

-- how many rows the group of a row has
abbrev pub size_at : List VpdRow → ℕ → ℕ
size_at rows row = first_size (drop row rows)

-- the row behind a group
abbrev pub end_of : List VpdRow → RowGroup → ℕ
end_of rows group = group.row + 1 + size_at rows group.row

-- the rows of a group
abbrev pub body : List VpdRow → RowGroup → List VpdRow
body rows group = take (size_at rows group.row) (drop (group.row + 1) rows)

-- the rows from a place on to the end of a group, and then its repetitions
abbrev pub to_end : List VpdRow → ℕ → RowGroup → List VpdRow
to_end rows at group = take (end_of rows group - at) (drop at rows) ++ repeat group.left (body rows group)

-- the rows still to walk from a place on, with groups to repeat, the innermost first: the rest of its group, its repetitions,
-- and then from its end on with those round it
abbrev pub still_to_walk : List VpdRow → ℕ → List RowGroup → List VpdRow
still_to_walk rows at [] = drop at rows
still_to_walk rows at (group ∷ groups) = to_end rows at group ++ still_to_walk rows (end_of rows group) groups

-- groups to repeat, the innermost first, each in the next, all of which hold the rows from one place to another
abbrev pub Enclose : List VpdRow → ℕ → ℕ → List RowGroup → Type 0
Enclose rows low high [] = high ≤ length rows
Enclose rows low high (group ∷ groups) =
    (group.row < low) × (high ≤ end_of rows group) × (0 < size_at rows group.row) × (0 < group.left) ×
    Enclose rows group.row (end_of rows group) groups

-- a place within the innermost group, or within the rows or at their end where there is no group
abbrev pub Ahead : List VpdRow → ℕ → List RowGroup → Type 0
Ahead rows at [] = at ≤ length rows
Ahead rows at (group ∷ groups) = at < end_of rows group

-- the groups with the innermost repeated once: it is left out where that was the last time
abbrev pub once_less : RowGroup → List RowGroup → List RowGroup
once_less group groups = if group.left == 1 then groups else record group { left = group.left - 1 } ∷ groups

-- where the walk goes on that stands at a place: at the start of the innermost group where this is its end
abbrev pub settled_at : List VpdRow → ℕ → List RowGroup → ℕ
settled_at rows at [] = at
settled_at rows at (group ∷ groups) = if at == end_of rows group then group.row + 1 else at

-- the groups that are then still to be repeated
abbrev pub settled : List VpdRow → ℕ → List RowGroup → List RowGroup
settled rows at [] = []
settled rows at (group ∷ groups) = if at == end_of rows group then once_less group groups else group ∷ groups

-- how often a raw number says that a group is walked, as far as it matters: behind so many times no more values have room
abbrev pub rounds : ℤ → ℕ
rounds raw = min (times raw) (most_values + 1)

-- where the walk goes on behind a row whose group is walked so often
abbrev pub entered_at : ℕ → ℕ → ℕ → ℕ
entered_at at size n = if n == 0 then at + 1 + size else at + 1

-- the groups that are then still to be repeated: that of the row too where it is walked more than once
abbrev pub entered : ℕ → ℕ → List RowGroup → List RowGroup
entered at n groups = if nat_lt 1 n then record { row = at; left = n - 1 } ∷ groups else groups

-- the innermost group, if there is one, is of these rows, and is still to be repeated
abbrev pub IsOfRows : List VpdRow → List RowGroup → Type 0
IsOfRows rows [] = Unit {0}
IsOfRows rows (group ∷ groups) = (end_of rows group ≤ length rows) × (0 < group.left)
