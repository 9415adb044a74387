-- How far a sheet was played. [This profile.]
use Rattle.std.specs.Prelude.{◌≡◌, ◌+◌, ◌*◌, ℕ, List, ◌++◌, length}
use Rattle.line_sheets.specs.Pieces.{Played, behind, played}
use Rattle.line_sheets.specs.Readings.{LeftView, held_size}
use Rattle.line_sheets.specs.Sheets.{AreSeated, pieces_of}
use Rattle.mib_model.specs.declared.database.Database.{Database}
use Rattle.mib_model.specs.Kept.{Memory}
use Rattle.record_text.specs.declared.lines.TheConstants.{END_ROOM, NOTE_ROOM}

-- what is played by what is left of a sheet, behind a text
abbrev pub left_played : Database → List (List ℕ) → List ℕ → LeftView → Memory → Played
left_played db names text left memory = behind (text ++ left.pending) (played db (pieces_of names left.left) memory)

-- what is left of a sheet comes, behind another text and from what is kept, to the same, and speaks of names that have seats
pub record GoesOn (db : Database) (names : List (List ℕ)) (begun left : LeftView) (text longer : List ℕ) (before after : Memory) : Type 0 where
  pub played : left_played db names longer left after ≡ left_played db names text begun before
  pub seated : AreSeated names left.left.runs

-- the most octets that a text has behind which what is left of a sheet is played
abbrev pub most_size : List ℕ → LeftView → ℕ
most_size text left = length text + length left.pending + held_size left.left + length left.left.runs * (END_ROOM + NOTE_ROOM)
