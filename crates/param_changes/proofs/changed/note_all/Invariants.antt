use Rattle.std.proofs.Common.{[], take}
use Rattle.param_changes.specs.Changed.{Notes}
use Rattle.param_changes.proofs.changed.note_all.Given as goal

abbrev pub invariant-loop-row : goal.invariant-loop-row
invariant-loop-row g l = Notes g.R.Named.name_of l.initial.names.items l.names.items (take l.row-index l.rows) []
