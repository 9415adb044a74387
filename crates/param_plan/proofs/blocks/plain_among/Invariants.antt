use Rattle.std.proofs.Common.{◌≡◌, map, take}
use Rattle.param_plan.specs.Plain.{plain_behind}
use Rattle.param_plan.proofs.blocks.plain_among.Given as goal

abbrev pub invariant-loop-plan : goal.invariant-loop-plan
invariant-loop-plan l = l.plain.items ≡ map plain_behind (take l.plan-index l.plans)
