use Rattle.std.proofs.Common.{◌≡◌, ◌∙◌, ℕ, ℤ, option_map, ap, arith}
use Rattle.std.proofs.lemmas.Int.{to_z-of_z}
use mir.Syntax.{w128}
use mir.Val.{to_z, of_z}
use Rattle.mib_model.specs.CalibrationViews.{calibrated_as}
use Rattle.mib_model.specs.Curves.{calibration}
use Rattle.mib_model.specs.Finish.{tail_for}
use Rattle.mib_model.specs.Kept.{empty_memory}
use Rattle.param_plan.specs.Slices.{curve_in}
use Rattle.line_marks.proofs.DrawingFacts.{given-settled, shown-marked}
use Rattle.line_marks.proofs.BehindFacts.{behind-is}
use Rattle.line_marks.specs.Marks.{behind}
use Rattle.line_marks.proofs.drawing.draw_checked.Goals as goal

pub returns-then-not-matches-clause-shown : goal.returns-then-not-matches-clause-shown
returns-then-not-matches-clause-shown c = λ db is settled number.
    let v = c.args.value.now in
    let s = c.args.plan.now in
    let given = option_map calibrated_as c.calibrate-given.result in
    let back : to_z w128 (of_z w128 v.raw) ≡ v.raw = grind (arith, to_z-of_z, c.requires.low, c.requires.high) in
    let made = c.calibrate-given.ensures ∙ ap (λ (n : ℤ). option_map (λ rows. calibration rows n) (curve_in s empty_memory)) back in
    let tailed = c.tail_for.ensures ∙ ap (λ (n : ℕ). tail_for n given) c.decimals.ensures in
    shown-marked db c.args.packet.now v s given _ c.checked_mark-mark.result (behind c.args.out.now c.draw_line.new.out) is settled (given-settled db v s given is settled number made) tailed
    (c.checked_mark-mark.ensures db is number) (behind-is c.args.out.now c.draw_line.new.out _ c.draw_line.ensures.text)
