use Rattle.std.proofs.Common.{◌≤◌, ◌+◌, ◌*◌, length, take}
use Rattle.std.specs.List.{All}
use Rattle.param_state.specs.FinishedValues.{IsToldPlain, AreFinished}
use Rattle.mib_model.specs.declared.database.Database.{Database}
use Rattle.mib_model.specs.Kept.{Memory}
use Rattle.record_text.specs.declared.lines.TheConstants.{VALUE_ROOM, NOTE_ROOM}
use Rattle.fold_state.proofs.fast.add_plain_values.Given as goal

abbrev pub invariant-loop-value : goal.invariant-loop-value
invariant-loop-value l = record {
  finished : (db : Database) (memory : Memory) → All (IsToldPlain db) l.values → AreFinished db l.packet (take l.value-index l.values) memory memory l.initial.out l.out;
  room : length l.out ≤ length l.initial.out + l.value-index * (VALUE_ROOM + NOTE_ROOM);
}
