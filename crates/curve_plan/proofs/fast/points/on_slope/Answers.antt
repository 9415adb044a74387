use Rattle.std.proofs.Common.{◌≡◌, ◌∙◌, ℕ, ℤ, Option, Some, IfSome, subst, to_z, of_z, arith}
use Rattle.std.specs.Int.{w64, w128}
use Rattle.std.proofs.lemmas.Int.{ints}
use Rattle.mib_model.specs.declared.number.Eng.{Eng}
use Rattle.mib_model.specs.Calibrated.{Counted}
use Rattle.mib_model.specs.Points.{on_pair}
use Rattle.curve_plan.specs.declared.fast.slope.Slope.{Slope}
use Rattle.curve_plan.specs.Knots.{knot_at}
use Rattle.curve_plan.specs.Pairs.{pair_at}
use Rattle.curve_plan.specs.Slopes.{IsOnLine, IsSlope}
use Rattle.curve_plan.proofs.PairFacts.{known-more}
use Rattle.curve_plan.proofs.SlopeFacts.{on-line}
use Rattle.curve_plan.proofs.fast.points.on_slope.Goals as goal

pub returns : goal.returns
returns c =
    let p = knot_at c.args.pair.p in
    let q = knot_at c.args.pair.q in
    let s = c.in_ok-pair.field-0 in
    let slope : IsSlope p q s = subst (λ (o : Option Slope). IfSome o (IsSlope p q)) c.in_ok-pair.was c.requires.sloped in
    let fits : to_z w64 (of_z w64 c.in_ok-word.field-0) ≡ c.in_ok-word.field-0 = omega (arith, ints) in
    let wide : to_z w128 (of_z w128 c.args.raw) ≡ c.args.raw = omega (arith, ints) in
    let raw : to_z w64 (of_z w64 c.in_ok-word.field-0) ≡ c.args.raw = fits ∙ (c.in_ok-word.ensures ∙ wide) in
    known-more (λ (value : Eng). IsOnLine s (to_z w64 (of_z w64 c.in_ok-word.field-0)) value.count)
    (λ (value : Eng). (inter : ℕ) → Counted value.count ≡ on_pair inter c.args.raw (Some (pair_at c.args.pair))) c.value_at.result
    (λ value on inter. on-line p q inter c.args.raw value.count s slope (subst (λ (z : ℤ). IsOnLine s z value.count) raw on)) c.value_at.ensures
