use Rattle.std.proofs.Common.{◌≡◌, take, filter_map}
use Rattle.row_curves.specs.Views.{knots_at}
use Rattle.mib_model.specs.Points.{knot_of}
use Rattle.row_curves.proofs.points.points_of.Given as goal

abbrev pub invariant-loop-row : goal.invariant-loop-row
invariant-loop-row l = knots_at l.points.items ≡ filter_map (knot_of l.radix) (take l.row-index l.caps)
