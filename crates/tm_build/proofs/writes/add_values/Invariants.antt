use Rattle.std.proofs.Common.{◌≡◌, ◌++◌, take, map}
use Rattle.build_rules.specs.Building as Spec
use Rattle.tm_build.proofs.writes.add_values.Given as goal

abbrev pub invariant-loop-value : goal.invariant-loop-value
invariant-loop-value l = l.writes.items ≡ l.initial.writes.items ++ map Spec.value_write (take l.value-index l.values)
