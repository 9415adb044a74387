-- How a line goes on where no more than the raw number of its value is asked, of the name at a place of a board. [This profile.]
use Rattle.std.specs.Prelude.{ℕ, List, [], ◌++◌, codes, get_or}
use Rattle.fold_state.specs.Boards.{Slots}
use Rattle.line_marks.specs.Marks.{Shown}
use Rattle.mib_model.specs.AlarmTexts.{change_text_of}
use Rattle.mib_model.specs.Finish.{Finished}
use Rattle.mib_model.specs.Tails.{Told}
use Rattle.mib_model.specs.Texts.{tail_text}

-- the name at a place of a board
abbrev pub name_at : Slots → ℕ → List ℕ
name_at board seat = get_or board.names seat []

-- how the line of a value goes on behind its raw number, and the line of its change
abbrev pub open_text : Told → List ℕ
open_text told = tail_text told.tail ++ codes "\n" ++ change_text_of told.value.name told.change

-- what is kept after a value, and how its line goes on
abbrev pub opened : Finished → Shown
opened done = (done.0, open_text done.1)
