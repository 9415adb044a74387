-- The rows of a curve as contracts see them. [SCOS-2000 Database Import ICD, caf, cap, txf, txp, mcf and lgf.]
use Rattle.curve_plan.specs.declared.rows.CurveRows.{CurveRows}
use Rattle.curve_plan.specs.declared.rows.CurveRows.TheVariants as own
use Rattle.mib_model.specs.declared.plan.CurveRows.{CurveRows as Rows}
use Rattle.mib_model.specs.declared.plan.CurveRows.TheVariants as rows

-- the rows of a curve as mib_model defines them
abbrev pub rows_of : CurveRows → Rows
rows_of (own.Points caf caps) = rows.Points caf caps.items
rows_of (own.Texts txf txps) = rows.Texts txf txps.items
rows_of (own.Poly mcf) = rows.Poly mcf
rows_of (own.Log lgf) = rows.Log lgf
