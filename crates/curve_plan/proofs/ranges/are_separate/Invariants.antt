use Rattle.std.proofs.Common.{◌≡◌, true}
use Rattle.std.specs.List.{AllAdjacentBelow}
use Rattle.curve_plan.specs.Ranges.{precedes}
use Rattle.curve_plan.proofs.ranges.are_separate.Given as goal

abbrev pub invariant-loop-at : goal.invariant-loop-at
invariant-loop-at l = AllAdjacentBelow (λ range next. precedes range next ≡ true) l.ranges l.at
