use Rattle.std.proofs.Common.{map, take}
use Rattle.std.specs.Arc.{arc_value}
use Rattle.param_changes.specs.Beside.{AreFreeOf}
use Rattle.param_changes.proofs.touch.has_changed_curve.Given as goal

abbrev pub invariant-loop-plan : goal.invariant-loop-plan
invariant-loop-plan l = AreFreeOf l.changed (map arc_value (take l.plan-index l.plan-items))
