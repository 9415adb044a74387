use Rattle.std.proofs.Common.{◌≡◌, ◌≤◌, ◌+◌, ◌*◌, length, take}
use Rattle.fold_state.specs.Boards.{memory_of}
use Rattle.fold_state.specs.Premises.{AreSeated, Fits}
use Rattle.param_state.specs.FinishedValues.{AreFinished}
use Rattle.mib_model.specs.declared.database.Database.{Database}
use Rattle.record_text.specs.declared.lines.TheConstants.{VALUE_ROOM, NOTE_ROOM}
use Rattle.fold_state.proofs.board.Board.finish_all.Given as goal

abbrev pub invariant-loop-k : goal.invariant-loop-k
invariant-loop-k l = record {
  names : l.self.names ≡ l.initial.self.names;
  finished : (db : Database) → Fits db l.params l.initial.self l.values
      → AreSeated l.initial.self l.values (length l.values) l.seats → AreFinished db l.packet (take l.k l.values) (memory_of l.initial.self) (memory_of l.self) l.initial.out l.out;
  room : length l.out ≤ length l.initial.out + l.k * (VALUE_ROOM + NOTE_ROOM);
}
