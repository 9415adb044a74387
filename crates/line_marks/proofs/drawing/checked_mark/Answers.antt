use Rattle.std.proofs.Common.{◌≡◌, ◌∙◌, ℤ, Some, option_map, ap, sym, arith}
use Rattle.std.proofs.lemmas.Int.{to_z-of_z}
use mir.Syntax.{w128}
use mir.Val.{to_z, of_z}
use Rattle.mib_model.specs.Finish.{sample_for}
use Rattle.std.specs.Option.{option_copied}
use Rattle.check_plan.specs.Samples.{sample_of}
use Rattle.mib_model.specs.CalibrationViews.{calibrated_as}
use Rattle.param_plan.specs.Slices.{checks_in}
use Rattle.line_marks.proofs.DrawingFacts.{marked-given}
use Rattle.line_marks.proofs.drawing.checked_mark.Goals as goal

pub returns-in-Some-sample_for : goal.returns-in-Some-sample_for
returns-in-Some-sample_for c = λ db is number.
    let checks : Some c.in-Some.checks.now ≡ checks_in c.args.plan.now = ap option_copied (sym c.in-Some.is) ∙ c.checks.ensures in
    let v = c.args.value.now in
    let given = option_map calibrated_as c.args.given in
    let back : to_z w128 (of_z w128 v.raw) ≡ v.raw = grind (arith, to_z-of_z, c.requires.low, c.requires.high) in
    let sampled = ap (option_map sample_of) (sym c.in-Some-sample_for.is) ∙ (c.sample_for.ensures ∙ ap (λ (n : ℤ). sample_for c.in-Some.checks.now.ocf n given) back) in
    marked-given db v c.args.plan.now given c.in-Some.checks.now (sample_of c.in-Some-sample_for.sample) c.mark_of.result is checks number (sym sampled) c.mark_of.ensures
