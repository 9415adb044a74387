use Rattle.std.proofs.Common.{◌≡◌, ◌-◌, ◌≤◌, drop, option_map}
use Rattle.mib_model.specs.Points.{neighbours, pair_for}
use Rattle.row_curves.specs.Pairs.{taken_of}
use Rattle.row_curves.specs.Views.{knots_at, pair_at}
use Rattle.row_curves.proofs.points.pair_for.Given as goal

abbrev pub invariant-loop-at : goal.invariant-loop-at
invariant-loop-at l = taken_of l.raw (option_map pair_at l.found) (neighbours (drop (l.at - 1) (knots_at l.points))) ≡ pair_for l.raw (neighbours (knots_at l.points))
