use Rattle.std.proofs.Common.{◌≡◌, ◌++◌, map, take}
use Rattle.mib_model.specs.declared.plan.PlanName.TheVariants as plan
use Rattle.edition_diff.proofs.names.add_params.Given as goal

abbrev pub invariant-loop-name : goal.invariant-loop-name
invariant-loop-name l = l.names.items ≡ l.initial.names.items ++ map plan.Param (take l.name-index l.params)
