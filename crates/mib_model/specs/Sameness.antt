-- When two rows are the same: column by column, as typed values. [This profile.]
use Rattle.std.specs.Prelude.{Bool, true, false, List, [], ◌∷◌, ◌&&◌, ◌==◌}
use Rattle.std.specs.Option.{option_eq}
use Rattle.std.specs.Ordering.{int_eq}
use Rattle.std.specs.Str.{bytes_eq}
use Rattle.mib_model.specs.declared.number.Dec.{Dec}
use Rattle.mib_model.specs.declared.rows.Bound.{Bound}
use Rattle.mib_model.specs.declared.rows.Bound.TheVariants as bound
use Rattle.mib_model.specs.Forms.{Form, Named, Natural, Integer, Letter, Capital, Decimal, AnyText, Bounding, Content}
use Rattle.mib_model.specs.Columns.{Column, Must, Optional, Filled, Cell, Cells}

-- whether two decimals have equal digits and exponents
abbrev pub same_decimal : Dec → Dec → Bool
same_decimal x y = int_eq x.m y.m && int_eq x.e y.e

-- whether two bounds are equal
abbrev pub same_bound : Bound → Bound → Bool
same_bound bound.Empty bound.Empty = true
same_bound (bound.Number x) (bound.Number y) = same_decimal x y
same_bound (bound.Words x) (bound.Words y) = bytes_eq x y
same_bound x y = false

-- whether two contents of a form are equal
abbrev pub same_content : (form : Form) → Content form → Content form → Bool
same_content Named x y = bytes_eq x y
same_content (Natural low high) x y = x == y
same_content (Integer low high) x y = int_eq x y
same_content (Letter letters) x y = x == y
same_content Capital x y = x == y
same_content Decimal x y = same_decimal x y
same_content AnyText x y = bytes_eq x y
same_content (Bounding states) x y = same_bound x y

-- whether two values of a column are equal
abbrev pub same_cell : (column : Column) → Cell column → Cell column → Bool
same_cell (Must number form) x y = same_content form x y
same_cell (Optional number form) x y = option_eq (same_content form) x y
same_cell (Filled number form empty) x y = same_content form x y

-- whether two rows of values are equal, column by column
unfoldable pub same_cells : (columns : List Column) → Cells columns → Cells columns → Bool
same_cells [] x y = true
same_cells (column ∷ []) x y = same_cell column x.0 y.0
same_cells (column ∷ next ∷ columns) x y = same_cell column x.0 y.0 && same_cells (next ∷ columns) x.1 y.1
