use Rattle.std.proofs.Common.{take}
use Rattle.param_state.specs.Demands.{Notes, asked_in}
use Rattle.param_state.proofs.demands.Noting.note_all.Given as goal

abbrev pub invariant-loop-at : goal.invariant-loop-at
invariant-loop-at l = Notes (asked_in (take l.at l.params)) l.params l.initial.self.demands.items l.self.demands.items
