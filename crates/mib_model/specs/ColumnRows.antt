-- What the fields of a line are in the columns of a table. [This profile, after the SCOS-2000 Database Import ICD.]
use Rattle.std.specs.Prelude.{ℕ, ◌+◌, List, [], ◌∷◌, length, nat_lt, Result, Ok, Err, if◌then◌else◌}
use Rattle.mib_model.specs.declared.fault.MibCode.TheVariants.{FewFields}
use Rattle.mib_model.specs.declared.line_fault.LineFault.{LineFault}
use Rattle.mib_model.specs.Attempts.{◌>>=◌}
use Rattle.mib_model.specs.Lines.{field_at}
use Rattle.mib_model.specs.Forms.{fault_in}
use Rattle.mib_model.specs.Columns.{Column, Must, Optional, Filled, number_in, Cells, cell_of}

-- what is made of the cells of a line's columns, or the first fault from left to right
abbrev pub row_by : {Made : Type 0} (columns : List Column) → (Cells columns → Made) → List (List ℕ) → Result Made LineFault
row_by [] make row = Ok (make tt)
row_by (column ∷ columns) make row = do
  cell ← cell_of column (field_at row (number_in column))
  row_by columns (λ cells. make (cell, cells)) row

-- what is made of fields that stand one behind the other from a place on, each with the number of its own column
abbrev pub key_by : {Made : Type 0} (columns : List Column) → (Cells columns → Made) → ℕ → List (List ℕ) → Result Made LineFault
key_by [] make place row = Ok (make tt)
key_by (column ∷ columns) make place row = do
  cell ← cell_of column (field_at row place)
  key_by columns (λ cells. make (cell, cells)) (place + 1) row

-- the number of the last column that must be there
abbrev pub last_must : List Column → ℕ
last_must [] = 0
last_must (Must number form ∷ columns) = if nat_lt (last_must columns) number then number else last_must columns
last_must (Optional number form ∷ columns) = last_must columns
last_must (Filled number form empty ∷ columns) = last_must columns

-- the number of columns that must be there
abbrev pub musts : List Column → ℕ
musts [] = 0
musts (Must number form ∷ columns) = musts columns + 1
musts (Optional number form ∷ columns) = musts columns
musts (Filled number form empty ∷ columns) = musts columns

-- what is read of a line that has at least so many fields
abbrev pub if_fields : {Made : Type 0} → ℕ → List (List ℕ) → Result Made LineFault → Result Made LineFault
if_fields least row read = if nat_lt (length row) least then Err (fault_in 0 FewFields) else read

-- what is made of a line by its columns
abbrev pub made_by : {Made : Type 0} (columns : List Column) → (Cells columns → Made) → List (List ℕ) → Result Made LineFault
made_by columns make row = if_fields (last_must columns) row (row_by columns make row)

-- what is made of the fields of a key by its columns
abbrev pub key_made_by : {Made : Type 0} (columns : List Column) → (Cells columns → Made) → List (List ℕ) → Result Made LineFault
key_made_by columns make row = if_fields (musts columns) row (key_by columns make 1 row)
