-- The law of sameness, over all lists of columns.
use Rattle.std.specs.Prelude.{◌≡◌, List}
use Rattle.std.specs.Bool.{Decides}
use Rattle.mib_model.specs.Columns.{Column, Cells}
use Rattle.mib_model.specs.Sameness.{same_cells}

-- values are the same exactly where they are equal
abbrev pub SameIsEqual : Type 0
SameIsEqual = (columns : List Column) (x y : Cells columns) → Decides (same_cells columns x y) (x ≡ y)
