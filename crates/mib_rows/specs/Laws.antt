-- Laws of rows and lines, over all tables.
use Rattle.std.specs.Prelude.{◌≡◌, Ok}
use Rattle.mib_model.specs.declared.rows.Row.{Row}
use Rattle.mib_model.specs.Fitting.{FitsRow}
use Rattle.mib_model.specs.Reading.{row_read}
use Rattle.mib_model.specs.RowTexts.{line_of, kind_in}

-- a row that a line can be is read again from its line
abbrev pub WrittenIsRead : Type 0
WrittenIsRead = (r : Row) → FitsRow r → row_read (kind_in r) (line_of r) ≡ Ok r
