use Rattle.std.proofs.Common.{◌≡◌, map, take}
use Rattle.param_state.specs.Demands.{unasked_for}
use Rattle.param_state.proofs.demands.unasked.Given as goal

abbrev pub invariant-loop-at : goal.invariant-loop-at
invariant-loop-at l = l.demands.items ≡ map unasked_for (take l.at l.params)
