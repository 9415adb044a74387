-- The text of a row: what its columns hold, parted by tabs. [This profile.]
use Rattle.std.specs.Prelude.{ℕ, ◌-◌, List, [], ◌∷◌, ◌++◌, codes, decimal, replicate, Option, Some, None}
use Rattle.std.specs.Fmt.{signed_decimal}
use Rattle.mib_model.specs.declared.number.Dec.{Dec}
use Rattle.mib_model.specs.declared.rows.Bound.{Bound}
use Rattle.mib_model.specs.declared.rows.Bound.TheVariants as bound
use Rattle.mib_model.specs.Forms.{Form, Named, Natural, Integer, Letter, Capital, Decimal, AnyText, Bounding, Content}
use Rattle.mib_model.specs.Columns.{Column, Must, Optional, Filled, number_in, Cell, Cells}

-- the text of a decimal: its digits, E and its exponent
unfoldable pub decimal_text : Dec → List ℕ
decimal_text d = signed_decimal d.m ++ codes "E" ++ signed_decimal d.e

-- the text of a bound
abbrev pub bound_text : Bound → List ℕ
bound_text bound.Empty = []
bound_text (bound.Number d) = decimal_text d
bound_text (bound.Words octets) = octets

-- the text of what a field of a form is
abbrev pub content_text : (form : Form) → Content form → List ℕ
content_text Named octets = octets
content_text (Natural low high) number = decimal number
content_text (Integer low high) number = signed_decimal number
content_text (Letter letters) letter = letter ∷ []
content_text Capital letter = letter ∷ []
content_text Decimal d = decimal_text d
content_text AnyText octets = octets
content_text (Bounding states) b = bound_text b

-- the text of a content, and no text where there is none
abbrev pub option_text : (form : Form) → Option (Content form) → List ℕ
option_text form None = []
option_text form (Some content) = content_text form content

-- the text of what a row has in a column
abbrev pub cell_text : (column : Column) → Cell column → List ℕ
cell_text (Must number form) value = content_text form value
cell_text (Optional number form) value = option_text form value
cell_text (Filled number form empty) value = content_text form value

-- a line that stands in a column, and the values of further columns behind it, each behind the tabs up to its column
abbrev pub line_onto : List ℕ → ℕ → (columns : List Column) → Cells columns → List ℕ
line_onto line at [] values = line
line_onto line at (column ∷ columns) values =
    line_onto (line ++ replicate (number_in column - at) 9 ++ cell_text column values.0) (number_in column) columns values.1

-- the line of the values of these columns
abbrev pub line_by : (columns : List Column) → Cells columns → List ℕ
line_by columns values = line_onto [] 1 columns values
