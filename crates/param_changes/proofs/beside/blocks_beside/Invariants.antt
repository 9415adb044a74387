use Rattle.std.proofs.Common.{◌≡◌, ◌+◌, map, filter, length, take, flat_map}
use Rattle.std.specs.Arc.{arc_value}
use Rattle.param_state.specs.ParamPlans.{plan_names}
use Rattle.param_changes.specs.Beside.{is_other, now_of}
use Rattle.param_changes.proofs.beside.blocks_beside.Given as goal

abbrev pub invariant-loop-at : goal.invariant-loop-at
invariant-loop-at g l = record {
  blocks : map arc_value l.blocks.items ≡ map (λ block. map (now_of l.sources) (arc_value block)) (take l.at l.all);
  compiled : l.compiled.items ≡ plan_names (filter (is_other l.sources) (flat_map arc_value (take l.at l.all)));
  steps : l.steps ≡ l.initial.steps + length (filter (is_other l.sources) (flat_map arc_value (take l.at l.all)));
}
