-- Curves and points as the program has them. [SCOS-2000 Database Import ICD, caf, cap, txf, txp, mcf and lgf.]
use Rattle.std.specs.Prelude.{List, map}
use Rattle.dec_num.specs.declared.curve.Point.{Point}
use Rattle.mib_model.specs.declared.plan.CurveRows.{CurveRows}
use Rattle.mib_model.specs.declared.plan.CurveRows.TheVariants as rows
use Rattle.mib_model.specs.Points.{Knot}
use Rattle.row_curves.specs.declared.curve.RowCurve.{RowCurve}
use Rattle.row_curves.specs.declared.curve.RowCurve.TheVariants as curve

-- the rows of a curve
abbrev pub curve_as : RowCurve → CurveRows
curve_as (curve.Points caf caps) = rows.Points caf.now caps.now
curve_as (curve.Texts txf txps) = rows.Texts txf.now txps.now
curve_as (curve.Poly mcf) = rows.Poly mcf.now
curve_as (curve.Log lgf) = rows.Log lgf.now

-- a point as a raw number and a count
abbrev pub knot_at : Point → Knot
knot_at p = record { x = p.x; y = p.y.count }

-- points, each so
abbrev pub knots_at : List Point → List Knot
knots_at = map knot_at

-- two points so
abbrev pub pair_at : Point × Point → Knot × Knot
pair_at pair = (knot_at pair.0, knot_at pair.1)
