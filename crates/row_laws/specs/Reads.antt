-- Laws of what is read, over all tables.
use Rattle.std.specs.Prelude.{◌≡◌, ℕ, List, Ok}
use Rattle.mib_model.specs.declared.kind.Kind.{Kind}
use Rattle.mib_model.specs.declared.rows.Row.{Row}
use Rattle.mib_model.specs.Fitting.{FitsRow}
use Rattle.mib_model.specs.Reading.{row_read}
use Rattle.mib_model.specs.RowTexts.{kind_in}

-- a row that is read of a line is one of the line's table, and one that a line can be
abbrev pub ReadFits : Type 0
ReadFits = (table : Kind) (line : List ℕ) (r : Row) → row_read table line ≡ Ok r → FitsRow r × (kind_in r ≡ table)
