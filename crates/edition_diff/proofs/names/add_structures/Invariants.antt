use Rattle.std.proofs.Common.{◌≡◌, ◌++◌, map, take}
use Rattle.mib_model.specs.declared.plan.PlanName.TheVariants as plan
use Rattle.edition_diff.proofs.names.add_structures.Given as goal

abbrev pub invariant-loop-tpsd : goal.invariant-loop-tpsd
invariant-loop-tpsd l = l.names.items ≡ l.initial.names.items ++ map plan.Structure (take l.tpsd-index l.tpsds)
