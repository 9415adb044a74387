use Rattle.std.proofs.Common.{◌≡◌, take, filter_map}
use Rattle.curve_plan.specs.Knots.{knots_at}
use Rattle.mib_model.specs.Points.{knot_of}
use Rattle.curve_plan.proofs.points.points_of.Given as goal

abbrev pub invariant-loop-row : goal.invariant-loop-row
invariant-loop-row l = knots_at l.points.items ≡ filter_map (knot_of l.radix) (take l.row-index l.caps)
