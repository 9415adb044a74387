use Rattle.std.proofs.Common.{take}
use Rattle.row_interpreter.specs.Memories.{memory_of}
use Rattle.row_records.proofs.CarryFacts.{Carries}
use Rattle.row_records.proofs.carry.carried.Given as goal

abbrev pub invariant-loop-name : goal.invariant-loop-name
invariant-loop-name l = Carries (memory_of l.memory) l.old l.new (take l.name-index l.names) (memory_of l.carried)
