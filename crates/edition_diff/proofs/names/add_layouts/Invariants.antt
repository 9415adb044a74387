use Rattle.std.proofs.Common.{◌≡◌, ◌++◌, map, take}
use Rattle.mib_model.specs.declared.plan.PlanName.TheVariants as plan
use Rattle.edition_diff.proofs.names.add_layouts.Given as goal

abbrev pub invariant-loop-spid : goal.invariant-loop-spid
invariant-loop-spid l = l.names.items ≡ l.initial.names.items ++ map plan.Layout (take l.spid-index l.spids)
