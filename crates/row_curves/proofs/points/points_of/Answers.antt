use Rattle.std.proofs.Common.{◌∙◌, ap, sym, Some, None}
use Rattle.std.proofs.lemmas.List.{append-nil}
use Rattle.row_curves.proofs.PointFacts.{collected-more}
use Rattle.row_curves.specs.Views.{knot_at, knots_at}
use Rattle.mib_model.specs.Points.{knot_of}
use Rattle.row_curves.proofs.points.points_of.Goals as goal
use Rattle.row_curves.proofs.points.points_of.Goals.{in-Some+in_ok-push, in_default}

pub loop-row-preserved : goal.loop-row-preserved
loop-row-preserved c = elim c.match-point_of.branch [
  | in-Some+in_ok-push w ↦ ap (λ v. knots_at v.items) w.points-is ∙ (ap knots_at w.in_ok-push.ensures.items ∙ collected-more knot_at (knot_of c.args.radix) c.loop-row.points.items c.args.caps.now c.loop-row.row-index c.row-item.result (Some w.in-Some.point) c.loop-row-test.true c.row-item.is w.in-Some.ensures c.loop-row.invariant)
  | in_default w ↦ ap (λ v. knots_at v.items) w.points-is ∙ (ap knots_at (sym (append-nil c.loop-row.points.items)) ∙ collected-more knot_at (knot_of c.args.radix) c.loop-row.points.items c.args.caps.now c.loop-row.row-index c.row-item.result None c.loop-row-test.true c.row-item.is w.in_default.ensures c.loop-row.invariant)
]
