use Rattle.std.proofs.Common.{take}
use Rattle.std.specs.List.{list_any}
use Rattle.std.specs.Str.{bytes_eq}
use Rattle.param_state.specs.Demands.{Notes}
use Rattle.param_state.proofs.demands.Noting.note_selections.Given as goal

abbrev pub invariant-loop-cur : goal.invariant-loop-cur
invariant-loop-cur l = Notes (λ other. list_any (λ row. bytes_eq row.rlchk other) (take l.cur-index l.curs)) l.params l.initial.self.demands.items l.self.demands.items
