-- Two points of a curve. [This profile.]
use Rattle.curve_plan.specs.declared.pair.Pair.{Pair}
use Rattle.mib_model.specs.Points.{Knot}
use Rattle.curve_plan.specs.Knots.{knot_at}

-- two points, each as mib_model defines it
abbrev pub pair_at : Pair → Knot × Knot
pair_at pair = (knot_at pair.p, knot_at pair.q)
