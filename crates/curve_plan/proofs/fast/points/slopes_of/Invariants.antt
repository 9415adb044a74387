use Rattle.std.proofs.Common.{◌≡◌, ◌+◌, length}
use Rattle.curve_plan.specs.Knots.{knots_at, AreSlopes}
use Rattle.curve_plan.proofs.fast.points.slopes_of.Given as goal

abbrev pub invariant-loop-at : goal.invariant-loop-at
invariant-loop-at l = record {
  slopes : AreSlopes (knots_at l.points) l.slopes.items;
  count : length l.slopes.items + 1 ≡ l.at;
}
