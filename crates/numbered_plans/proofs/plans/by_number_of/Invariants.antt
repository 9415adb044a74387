use Rattle.numbered_plans.specs.Kept.{ArePlansOf}
use Rattle.numbered_plans.proofs.plans.by_number_of.Given as goal

abbrev pub invariant-loop-number : goal.invariant-loop-number
invariant-loop-number g l = ArePlansOf l.map l.by_number
