-- What a reader of a table's text has left, and what a read of a line takes of it.
use Rattle.std.specs.Prelude.{◌≡◌, ◌<◌, ◌∷◌, [], ℕ, Bool, true, false, List, drop, length, Option, None, Some, IsSome}
use Rattle.std.specs.Borrow.{Bor}
use Rattle.std.specs.List.{join_with_byte}
use Rattle.std.specs.Str.Lines.{strip_carriage_return}
use Rattle.csv.specs.declared.parser.Config.{Config}
use Rattle.csv.specs.declared.parser.State.TheVariants as state
use Rattle.csv.specs.declared.parser.Terminator.TheVariants as terminator
use Rattle.csv.specs.declared.reader.Reader.{Reader}
use Rattle.csv.specs.declared.reader.Trim.TheVariants as trim
use Rattle.csv.specs.Reading.{Ready, reader_config, reader_state, reader_trim, source_of}
use Rattle.mib_model.specs.Lines.{fields, lines}

-- the settings by which a table's text is cut: LF ends a record, TAB parts two fields, and nothing is quoted
abbrev pub table_settings : Config
table_settings = record { delimiter = 9; quote = 34; escape = None; double_quote = true; quoting = false; comment = None; terminator = terminator.Any 10 }

-- the text that a reader has left
abbrev pub left_in : Reader (Bor (List ℕ)) → Option (List ℕ)
left_in reader = source_of (λ s. Some s.now) reader

-- the lines of a text that is left
abbrev pub lines_left : Option (List ℕ) → List (List ℕ)
lines_left None = []
lines_left (Some text) = lines text

-- the octets of a text that is left
abbrev pub octets_left : Option (List ℕ) → ℕ
octets_left None = 0
octets_left (Some text) = length text

-- a line in front of others: an empty one is left out
abbrev pub in_front : List ℕ → List (List ℕ) → List (List ℕ)
in_front [] more = more
in_front (c ∷ line) more = (c ∷ line) ∷ more

-- the line of these fields
abbrev pub line_of : List (List ℕ) → List ℕ
line_of row = join_with_byte 9 row

-- the fields of a piece without the one CR at its end, by those of the piece
abbrev pub without_last_return : List (List ℕ) → List (List ℕ)
without_last_return [] = []
without_last_return (last ∷ []) = strip_carriage_return last ∷ []
without_last_return (field ∷ next ∷ more) = field ∷ without_last_return (next ∷ more)

-- the fields of a line, by the cells of its record: a line apart from a text stands behind one more cell, and a line
-- of a text may have a CR at its end
abbrev pub fields_in : Bool → List (List ℕ) → List (List ℕ)
fields_in true cells = drop 1 cells
fields_in false cells = without_last_return cells

-- a reader of a table's text that stands in front of a record
pub record IsAtRecord (reader : Reader (Bor (List ℕ))) : Type 0 where
  pub config : reader_config reader ≡ table_settings
  pub trim : reader_trim reader ≡ trim.None
  pub ready : Ready reader
  pub start : reader_state reader ≡ state.StartRecord
  pub known : IsSome (left_in reader)

-- the fields of the next line were read: none, where no line is left
pub record TakesLine (old new : Option (List ℕ)) (found : Bool) (row : List (List ℕ)) : Type 0 where
  pub none : found ≡ false → lines_left old ≡ []
  pub some : found ≡ true → lines_left old ≡ in_front (line_of row) (lines_left new)
  pub whole : found ≡ true → fields (line_of row) ≡ row
  pub less : found ≡ true → octets_left new < octets_left old
