use Rattle.std.proofs.Common.{take}
use Rattle.std.specs.List.{list_any}
use Rattle.memory_laws.specs.Alike.{is_on}
use Rattle.param_state.specs.Demands.{Notes}
use Rattle.param_state.proofs.demands.Noting.note_limits.Given as goal

abbrev pub invariant-loop-ocp : goal.invariant-loop-ocp
invariant-loop-ocp l = Notes (λ other. list_any (λ row. is_on other row.rlchk) (take l.ocp-index l.ocps)) l.params l.initial.self.demands.items l.self.demands.items
