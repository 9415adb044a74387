-- A sheet: parts of a text, and what is done behind each. [This profile.]
use Rattle.std.specs.Prelude.{ℕ, ℤ, ◌+◌, ◌<◌, List, [], ◌∷◌, ◌++◌, length, get_or, Option}
use Rattle.std.specs.List.{All, flat_map}
use Rattle.line_sheets.specs.Pieces.{Piece, Text, Enter, Calm, Open}

-- what is done with what is kept of the name that has a seat
pub data Act : Type 0 where
  Entered : (seat : ℕ) (raw : ℤ) → Act
  Calmed : (seat : ℕ) (number : ℤ) → Act
  Opened : (seat : ℕ) (raw : Option ℤ) → Act

-- octets, and what is done behind them
abbrev pub Run : Type 0
Run = List ℕ × Act

-- runs, the octets behind the last one, and how many octets there are in all
pub record SheetView : Type 0 where
  pub runs : List Run
  pub tail : List ℕ
  pub size : ℕ

-- a sheet of nothing
abbrev pub no_sheet : SheetView
no_sheet = record { runs = []; tail = []; size = 0 }

-- the seat of an act
abbrev pub seat_of : Act → ℕ
seat_of (Entered seat raw) = seat
seat_of (Calmed seat number) = seat
seat_of (Opened seat raw) = seat

-- what is done is done with names that have seats
abbrev pub AreSeated : List (List ℕ) → List Run → Type 0
AreSeated names runs = All (λ (run : Run). seat_of run.1 < length names) runs

-- the piece that an act is, by the names that have seats
abbrev pub piece_of : List (List ℕ) → Act → Piece
piece_of names (Entered seat raw) = Enter (get_or names seat []) raw
piece_of names (Calmed seat number) = Calm (get_or names seat []) number
piece_of names (Opened seat raw) = Open (get_or names seat []) raw

-- the pieces of a run
abbrev pub run_pieces : List (List ℕ) → Run → List Piece
run_pieces names run = Text run.0 ∷ piece_of names run.1 ∷ []

-- the pieces of a sheet
abbrev pub pieces_of : List (List ℕ) → SheetView → List Piece
pieces_of names sheet = flat_map (run_pieces names) sheet.runs ++ Text sheet.tail ∷ []

-- octets behind a sheet
abbrev pub with_text : SheetView → List ℕ → SheetView
with_text sheet octets = record { runs = sheet.runs; tail = sheet.tail ++ octets; size = sheet.size + length octets }

-- an act behind a sheet
abbrev pub with_act : SheetView → Act → SheetView
with_act sheet act = record { runs = sheet.runs ++ (sheet.tail, act) ∷ []; tail = []; size = sheet.size }
