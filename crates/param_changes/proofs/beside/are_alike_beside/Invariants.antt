use Rattle.std.proofs.Common.{length, take}
use Rattle.param_changes.specs.Beside.{AreAlike}
use Rattle.param_changes.proofs.beside.are_alike_beside.Given as goal

abbrev pub invariant-loop-old : goal.invariant-loop-old
invariant-loop-old l = AreAlike (take (length l.yielded) l.fn.old) (take (length l.yielded) l.fn.new)
