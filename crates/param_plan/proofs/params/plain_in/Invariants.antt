use Rattle.std.proofs.Common.{◌≡◌, map, take, flat_map}
use Rattle.std.specs.Arc.{arc_value}
use Rattle.param_plan.specs.Plain.{is_plain}
use Rattle.param_plan.proofs.params.plain_in.Given as goal

abbrev pub invariant-loop-block : goal.invariant-loop-block
invariant-loop-block l = l.plain.items ≡ map is_plain (flat_map arc_value (take l.block-index l.blocks))
