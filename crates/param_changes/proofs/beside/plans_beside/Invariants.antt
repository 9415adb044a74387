use Rattle.std.proofs.Common.{◌≡◌, ◌+◌, ◌++◌, map, filter, length, take}
use Rattle.std.specs.Arc.{arc_value}
use Rattle.param_state.specs.ParamPlans.{plan_names}
use Rattle.param_changes.specs.Beside.{is_other, now_of}
use Rattle.param_changes.proofs.beside.plans_beside.Given as goal

abbrev pub invariant-loop-plan : goal.invariant-loop-plan
invariant-loop-plan g l = record {
  plans : map arc_value l.plans.items ≡ map (now_of l.sources) (map arc_value (take l.plan-index l.plan-items));
  compiled : l.compiled.items ≡ l.initial.compiled.items ++ plan_names (filter (is_other l.sources) (map arc_value (take l.plan-index l.plan-items)));
  steps : l.steps ≡ l.initial.steps + length (filter (is_other l.sources) (map arc_value (take l.plan-index l.plan-items)));
}
