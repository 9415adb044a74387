-- A column of a table, and what a field is in it. [This profile, after the SCOS-2000 Database Import ICD.]
use Rattle.std.specs.Prelude.{ℕ, List, [], ◌∷◌, filter, ◌==◌, Option, Some, None, Result, Ok}
use Rattle.std.specs.List.{list_any}
use Rattle.mib_model.specs.declared.line_fault.LineFault.{LineFault}
use Rattle.mib_model.specs.Attempts.{made_into}
use Rattle.mib_model.specs.Forms.{Form, Content, counted, content_of}

-- a column: its number, its form, and what an empty field is; one that must be there has no empty field
pub data Column : Type 0 where
  Must : (number : ℕ) (form : Form) → Column
  Optional : (number : ℕ) (form : Form) → Column
  Filled : (number : ℕ) (form : Form) (empty : Content form) → Column

-- the number of a column, from 1
abbrev pub number_in : Column → ℕ
number_in (Must number form) = number
number_in (Optional number form) = number
number_in (Filled number form empty) = number

-- what a row has in a column: its cell
abbrev pub Cell : Column → Type 0
Cell (Must number form) = Content form
Cell (Optional number form) = Option (Content form)
Cell (Filled number form empty) = Content form

-- an empty field is the cell that its column says
abbrev pub or_empty : {A : Type 0} → List ℕ → A → Result A LineFault → Result A LineFault
or_empty [] empty read = Ok empty
or_empty (octet ∷ octets) empty read = read

-- what a field is in a column, or the column's fault
unfoldable pub cell_of : (column : Column) → List ℕ → Result (Cell column) LineFault
cell_of (Must number form) field = content_of form number (counted form field)
cell_of (Optional number form) field = or_empty (counted form field) None (made_into Some (content_of form number (counted form field)))
cell_of (Filled number form empty) field = or_empty (counted form field) empty (content_of form number (counted form field))

-- the cells of a row in these columns
abbrev pub Cells : List Column → Type 0
Cells [] = Unit {0}
Cells (column ∷ columns) = Cell column × Cells columns

-- the columns that have these numbers, in the order of their table
abbrev pub chosen : List ℕ → List Column → List Column
chosen numbers columns = filter (λ column. list_any (λ number. number == number_in column) numbers) columns
