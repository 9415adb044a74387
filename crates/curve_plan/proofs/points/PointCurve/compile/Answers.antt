use Rattle.std.proofs.Common.{sym, subst, ap, ◌∙◌, filter_map}
use Rattle.mib_model.specs.Points.{knot_of, knots}
use Rattle.curve_plan.specs.Knots.{knots_at, Climbs}
use Rattle.curve_plan.proofs.PointFacts.{sorted-climbs}
use Rattle.curve_plan.proofs.points.PointCurve.compile.Goals as goal

pub returns-clause-climbs : goal.returns-clause-climbs
unfolding knots
returns-clause-climbs c = subst Climbs (sym c.in_ok-points.ensures) (sorted-climbs (filter_map (knot_of c.args.caf.now.radix) c.args.caps.now) c.requires)

pub slopes_of-requires : goal.slopes_of-requires
unfolding knots
slopes_of-requires c = subst Climbs (sym (ap knots_at c.deref.ensures.value ∙ c.in_ok-points.ensures)) (sorted-climbs (filter_map (knot_of c.args.caf.now.radix) c.args.caps.now) c.requires)
