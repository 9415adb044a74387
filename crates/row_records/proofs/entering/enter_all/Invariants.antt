use Rattle.std.proofs.Common.{◌≡◌, take}
use Rattle.mib_model.specs.Kept.{all_entered}
use Rattle.row_interpreter.specs.Memories.{memory_of}
use Rattle.row_records.proofs.entering.enter_all.Given as goal

abbrev pub invariant-loop-value : goal.invariant-loop-value
invariant-loop-value l = memory_of l.memory ≡ all_entered (memory_of l.initial.memory) (take l.value-index l.values)
