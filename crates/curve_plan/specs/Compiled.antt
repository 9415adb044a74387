-- Compiled curves: what each form makes of a raw number, and that it is what the rows make of it. [This profile.]
use Rattle.std.specs.Prelude.{◌≡◌, ℤ, true}
use Rattle.std.specs.List.{find}
use Rattle.curve_plan.specs.declared.curve.Form.{Form}
use Rattle.curve_plan.specs.declared.curve.Form.TheVariants as form
use Rattle.mib_model.specs.declared.plan.CurveRows.{CurveRows}
use Rattle.mib_model.specs.Calibrated.{Calibrated, LogCurve, RealCurve, calibrated}
use Rattle.mib_model.specs.Curves.{calibration}
use Rattle.mib_model.specs.Points.{neighbours, on_pair, pair_for}
use Rattle.mib_model.specs.Polynomials.{polynomial}
use Rattle.curve_plan.specs.Knots.{knots_at, Climbs, AreSlopes}
use Rattle.curve_plan.specs.Ranges.{holds_raw, text_of_range, AreSeparate}

-- what a compiled form makes of a raw number
abbrev pub given_by : Form → ℤ → Calibrated
given_by (form.Points curve) raw = on_pair curve.inter raw (pair_for raw (neighbours (knots_at curve.points.items)))
given_by (form.Texts curve) raw = text_of_range (find (holds_raw raw) curve.ranges.items)
given_by (form.Poly coefficients) raw = calibrated (polynomial coefficients raw)
given_by form.Log raw = LogCurve
given_by form.Real raw = RealCurve

-- points stand in order with the slopes between them, and ranges that are said to be separate are so
abbrev pub IsInOrder : Form → Type 0
IsInOrder (form.Points curve) = Climbs (knots_at curve.points.items) × AreSlopes (knots_at curve.points.items) curve.slopes.items
IsInOrder (form.Texts curve) = curve.separate ≡ true → AreSeparate curve.ranges.items
IsInOrder other = Unit {0}

-- a form in order that makes of each raw number what rows make of it
pub record IsCompiled (form : Form) (rows : CurveRows) : Type 0 where
  pub order : IsInOrder form
  pub same : (raw : ℤ) → given_by form raw ≡ calibration rows raw
