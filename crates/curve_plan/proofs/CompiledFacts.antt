-- What compiled ranges make of a raw number.
use Rattle.std.proofs.Common.{◌≡◌, ◌∙◌, ℤ, true, false, List, ap, filter_map}
use Rattle.std.specs.List.{find}
use Rattle.mib_model.specs.declared.plan.CurveRows.TheVariants as rows
use Rattle.mib_model.specs.declared.rows.TxfRow.{TxfRow}
use Rattle.mib_model.specs.declared.rows.TxpRow.{TxpRow}
use Rattle.mib_model.specs.Curves.{calibration, is_real_format}
use Rattle.curve_plan.specs.declared.curve.Form.TheVariants as form
use Rattle.curve_plan.specs.declared.ranges.RangeCurve.{RangeCurve}
use Rattle.curve_plan.specs.Compiled.{IsCompiled}
use Rattle.curve_plan.specs.Ranges.{holds_raw, range_of, text_of_range, AreSeparate}
use Rattle.curve_plan.proofs.RangeFacts.{texts-same}

-- ranges that find what all ranges of the rows find are the rows compiled
pub texts-compiled : (txf : TxfRow) (txps : List TxpRow) (curve : RangeCurve) → is_real_format txf.rawfmt ≡ false
    → ((raw : ℤ) → find (holds_raw raw) curve.ranges.items ≡ find (holds_raw raw) (filter_map range_of txps))
    → (curve.separate ≡ true → AreSeparate curve.ranges.items) → IsCompiled (form.Texts curve) (rows.Texts txf txps)
unfolding calibration
texts-compiled txf txps curve whole found separate = record {
  order = separate;
  same = λ raw. rw whole (ap text_of_range (found raw) ∙ texts-same raw txps);
}
