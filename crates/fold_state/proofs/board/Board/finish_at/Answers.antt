use Rattle.std.proofs.Common.{◌≡◌, ◌∙◌, ℕ, ℤ, sym, ap, arith, option_map}
use Rattle.std.proofs.lemmas.Int.{to_z-of_z}
use mir.Syntax.{w128}
use mir.Val.{to_z, of_z}
use Rattle.mib_model.specs.CalibrationViews.{calibrated_as}
use Rattle.mib_model.specs.Curves.{calibration}
use Rattle.mib_model.specs.Finish.{tail_for}
use Rattle.param_plan.specs.Slices.{curve_in}
use Rattle.fold_state.specs.Boards.{memory_of}
use Rattle.param_state.proofs.ValueFacts.{finish-invalid, finish-numberless, finish-valid, given-number}
use Rattle.fold_state.proofs.board.Board.finish_at.Goals as goal

pub returns-then-not-valid-clause-finished : goal.returns-then-not-valid-clause-finished
returns-then-not-valid-clause-finished c = λ db is at raw.
    finish-invalid db (memory_of c.args.self.now) c.args.value.now c.args.plan.now is (sym c.valid.ensures ∙ c.if-not-valid.true)

pub returns-then-not-is_raw-clause-finished : goal.returns-then-not-is_raw-clause-finished
returns-then-not-is_raw-clause-finished c = λ db is at raw.
    finish-numberless db (memory_of c.args.self.now) c.args.value.now c.args.plan.now is (sym c.valid.ensures ∙ c.if-not-valid.false) (sym (c.is_raw.ensures.number raw) ∙ c.if-not-is_raw.true)

pub returns-clause-finished : goal.returns-clause-finished
returns-clause-finished c = λ db is at raw.
    let m = memory_of c.args.self.now in
    let v = c.args.value.now in
    let s = c.args.plan.now in
    let given = option_map calibrated_as c.calibrate-given.result in
    let number = sym (c.is_raw.ensures.number raw) ∙ c.if-not-is_raw.false in
    let back : to_z w128 (of_z w128 v.raw) ≡ v.raw = grind (arith, to_z-of_z, raw.0, raw.1) in
    let made = c.calibrate-given.ensures ∙ ap (λ (n : ℤ). option_map (λ rows. calibration rows n) (curve_in s m)) back in
    finish-valid db m v s given _ (memory_of c.check-change.new.self, c.check-change.result) is (sym c.valid.ensures ∙ c.if-not-valid.false)
    (given-number db m v s given is number made)
    (c.tail_for.ensures ∙ ap (λ (n : ℕ). tail_for n given) c.decimals.ensures)
    (c.check-change.ensures.checked db is at number)
