use Rattle.std.proofs.Common.{◌≡◌, ◌≤◌, ◌+◌, ◌*◌, ◌++◌, List, drop, length}
use Rattle.std.specs.List.{flat_map}
use Rattle.mib_model.specs.Tails.{Told}
use Rattle.mib_model.specs.Texts.{told_text}
use Rattle.record_text.specs.declared.lines.TheConstants.{NOTE_ROOM, VALUE_ROOM}
use Rattle.row_interpreter.specs.Memories.{memory_of}
use Rattle.row_records.proofs.TellFacts.{Goes}
use Rattle.row_records.proofs.telling.tell_all.Given as goal

abbrev pub invariant-loop-value : goal.invariant-loop-value
invariant-loop-value l = record {
  tolds : List Told;
  goes : Goes l.rows (memory_of l.initial.memory) l.values (memory_of l.memory) (drop l.value-index l.values) tolds;
  text : l.out ≡ l.initial.out ++ flat_map (told_text l.packet) tolds;
  room : length l.out ≤ length l.initial.out + l.value-index * (VALUE_ROOM + NOTE_ROOM);
}
