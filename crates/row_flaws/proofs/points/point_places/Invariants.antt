use Rattle.std.proofs.Common.{◌≡◌, take}
use Rattle.std.specs.HashMap.{get}
use Rattle.row_flaws.specs.declared.points.PointKey.{PointKey}
use Rattle.row_flaws.specs.Indexes.{first_place}
use Rattle.row_flaws.specs.Points.{point_eq, point_in}
use Rattle.row_flaws.proofs.points.point_places.Given as goal

abbrev pub invariant-loop-place : goal.invariant-loop-place
invariant-loop-place l = (q : PointKey) → get point_eq l.points q ≡ first_place point_eq (point_in l.index.caf) (take l.place l.caps) q
