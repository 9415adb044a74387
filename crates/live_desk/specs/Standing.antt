-- Where a desk stands before and behind lines. [This profile.]
use Rattle.std.specs.Prelude.{ℕ, List, Option}
use Rattle.desk_lines.specs.declared.reader.DeskReader.{DeskReader}
use Rattle.desk_lines.specs.ToCome.{Reading}
use Rattle.desk_lines.specs.Reader.{reading_of, source_of}
use Rattle.run_model.specs.declared.register.Answer.{Answer}
use Rattle.run_model.specs.declared.register.Entry.{Entry}
use Rattle.run_model.specs.Desk.{DeskState}
use Rattle.run_model.specs.RegisterHistories.{RegisterHistory}
use Rattle.turn_cell.specs.declared.view.View.{View}
use Rattle.turn_cell.specs.Seats.{Seat, own_moves}

-- what a desk holds: its state, the moves of its seat, and what was written of its replies, where that is told
pub record DeskHeld : Type 0 where
  pub state : DeskState
  pub own : RegisterHistory
  pub written : Option (List ℕ)

-- where a desk stands in its script: how far that was read, what is left of it, where that is told, and what the desk holds
pub record Standing : Type 0 where
  pub read : Reading
  pub left : Option (List ℕ)
  pub held : DeskHeld

-- what is held by an operator, by its seat, and by the object that its replies go to
abbrev pub held_by : {O S C P : Type 0} → (O → DeskState) → (P → Option (List ℕ)) → O → Seat S (View C Entry Answer) → P → DeskHeld
held_by state written operator seat replies = record { state = state operator; own = own_moves seat; written = written replies }

module _ {O S C D P : Type 0} (state : O → DeskState) (left : D → Option (List ℕ)) (written : P → Option (List ℕ)) where
  -- where a desk stands, by its reader, by its operator, by its seat, and by the object that its replies go to
  abbrev pub standing_of : DeskReader D → O → Seat S (View C Entry Answer) → P → Standing
  standing_of reader operator seat replies = record {
    read = reading_of reader;
    left = left (source_of reader);
    held = held_by state written operator seat replies;
  }
