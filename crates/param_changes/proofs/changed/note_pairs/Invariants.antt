use Rattle.std.proofs.Common.{length, take}
use Rattle.param_changes.specs.Changed.{Notes}
use Rattle.param_changes.proofs.changed.note_pairs.Given as goal

abbrev pub invariant-loop-old : goal.invariant-loop-old
invariant-loop-old g l = Notes g.R.Named.name_of l.initial.names.items l.names.items (take (length l.yielded) l.fn.old) (take (length l.yielded) l.fn.new)
