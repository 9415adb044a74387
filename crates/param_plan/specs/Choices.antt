-- The curves that a parameter may take: that of CURTX, or those of selections, each with its condition. [SCOS-2000 Database Import ICD, cur.]
use Rattle.std.specs.Prelude.{ℕ, Bool, List, [], map, Option, Some, None, option_and_then}
use Rattle.std.specs.List.{zip}
use Rattle.curve_plan.specs.Knots.{HasPointsApart}
use Rattle.mib_model.specs.declared.plan.CurveRows.{CurveRows}
use Rattle.mib_model.specs.declared.rows.CurRow.{CurRow}
use Rattle.mib_model.specs.Kept.{Memory, holds}
use Rattle.mib_model.specs.Points.{first_of}
use Rattle.param_plan.specs.declared.choice.Selection.{Selection}

-- the only curve, where CURTX is given
abbrev pub only_curve : Option (List ℕ) → List (Option CurveRows) → Option CurveRows
only_curve None curves = None
only_curve (Some name) curves = option_and_then (λ curve. curve) (first_of curves)

-- a selection with its curve, if there is one
abbrev pub selection_of : CurRow × Option CurveRows → Selection
selection_of pair = record { rlchk = pair.0.rlchk; valpar = pair.0.valpar; choice = pair.1 }

-- the selections with their curves, where CURTX is not given
abbrev pub selections_in : Option (List ℕ) → List CurRow → List (Option CurveRows) → List Selection
selections_in (Some name) curs curves = []
selections_in None curs curves = map selection_of (zip curs curves)

-- whether the condition of a selection holds
abbrev pub is_met : Memory → Selection → Bool
is_met memory selection = holds memory selection.rlchk selection.valpar

-- no curve, or one of which no two points stand at one x, where points are taken
abbrev pub IsApart : Option CurveRows → Type 0
IsApart None = Unit {0}
IsApart (Some rows) = HasPointsApart rows
