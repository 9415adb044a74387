-- The rows of tables' texts, or the first fault. [SCOS-2000 Database Import ICD; limits and faults are this profile's.]
use Rattle.std.specs.Prelude.{ℕ, ◌+◌, Bool, List, [], ◌∷◌, length, nat_eq, nat_lt, Result, Ok, Err, if◌then◌else◌}
use Rattle.std.specs.List.{starts_with}
use Rattle.mib_model.specs.declared.fault.MibCode.{MibCode}
use Rattle.mib_model.specs.declared.fault.MibCode.TheVariants.{Mark, LineLong, Rows, Big}
use Rattle.mib_model.specs.declared.fault.MibFault.{MibFault}
use Rattle.mib_model.specs.declared.key.Key.{Key}
use Rattle.mib_model.specs.declared.kind.Kind.{Kind}
use Rattle.mib_model.specs.declared.line_fault.LineFault.{LineFault}
use Rattle.mib_model.specs.declared.rows.Row.{Row}
use Rattle.mib_model.specs.Attempts.{◌>>=◌}
use Rattle.mib_model.specs.Lines.{lines, fields}
use Rattle.mib_model.specs.RowTexts.{row_of, key_of}
use Rattle.mib_model.specs.declared.limits.TheConstants.{ROW_MOST, ROWS_MOST, TABLE_MOST}

-- a fault of a table and a row
abbrev pub fault_at : Kind → ℕ → LineFault → MibFault
fault_at table number fault = record { table = table; row = number; column = fault.column; first = 0; code = fault.code }

-- what was read in a row, or its fault
abbrev pub in_row : {Made : Type 0} → Kind → ℕ → Result Made LineFault → Result Made MibFault
in_row table number (Ok made) = Ok made
in_row table number (Err fault) = Err (fault_at table number fault)

-- a fault of a row, or of the table where the row is 0
abbrev pub whole_fault : {Made : Type 0} → Kind → ℕ → MibCode → Result Made MibFault
whole_fault table number code = Err (fault_at table number (record { column = 0; code = code }))

-- what is made of a line's fields, where the line is the table's row of this number
abbrev pub line_at : {Made : Type 0} → (List (List ℕ) → Result Made LineFault) → Kind → ℕ → List ℕ → Result Made MibFault
line_at read table number line =
    if nat_lt ROW_MOST (length line) then whole_fault table number LineLong
    else if nat_lt ROWS_MOST number then whole_fault table number Rows
    else in_row table number (read (fields line))

-- the row that a line is, which is the table's row of this number
unfoldable pub row_at : Kind → ℕ → List ℕ → Result Row MibFault
row_at table number line = line_at (row_of table) table number line

-- what is read of lines one by one, the first of which has this number, or the first fault
unfoldable pub rows_from : {Made : Type 0} → (ℕ → List ℕ → Result Made MibFault) → ℕ → List (List ℕ) → Result (List Made) MibFault
rows_from read number [] = Ok []
rows_from read number (line ∷ more) = do
  first ← read number line
  rest ← rows_from read (number + 1) more
  Ok (first ∷ rest)

-- whether a text begins with the byte order mark EF BB BF
abbrev pub is_marked : List ℕ → Bool
is_marked text = starts_with nat_eq text (0xEF ∷ 0xBB ∷ 0xBF ∷ [])

-- the rows of a table's text, or the first fault
unfoldable pub table_of : Kind → List ℕ → Result (List Row) MibFault
table_of table text =
    if nat_lt TABLE_MOST (length text) then whole_fault table 0 Big
    else if is_marked text then whole_fault table 0 Mark
    else rows_from (row_at table) 1 (lines text)

-- the row that a line apart from a text is
unfoldable pub row_read : Kind → List ℕ → Result Row MibFault
row_read table line = in_row table 0 (row_of table (fields line))

-- the key that the fields of a line apart from a text are
unfoldable pub key_read : Kind → List ℕ → Result Key MibFault
key_read table line = in_row table 0 (key_of table (fields line))
