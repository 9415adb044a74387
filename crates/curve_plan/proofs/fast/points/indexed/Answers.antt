use Rattle.std.proofs.Common.{◌≡◌, ◌<ℤ◌, ◌+ℤ◌, ◌∙◌, ℤ, pos, subst, to_z, of_z, arith}
use Rattle.std.specs.Int.{w64, w128}
use Rattle.std.proofs.lemmas.Int.{ints}
use Rattle.curve_plan.specs.Slopes.{IsOnLine}
use Rattle.curve_plan.proofs.PairFacts.{on-slope, slope-line, slot-read}
use Rattle.curve_plan.proofs.fast.points.indexed.Goals as goal

pub value_before-requires : goal.value_before-requires
value_before-requires c =
    let slot = c.in-Some-Some.ensures.lookup in
    let there = slot-read c.args.curve.now.slopes.items c.deref.result.now c.saturating_add.result c.in-Some-Some.field-0.now c.in-Some-Some.slope c.deref.ensures.value slot.0 slot.1 c.in-Some-Some.field-0-is in
    slope-line c.args.curve.now.points.items c.args.curve.now.slopes.items c.saturating_add.result c.in-Some-Some.slope c.requires.slopes there.0 there.1

pub returns-in-Some : goal.returns-in-Some
returns-in-Some c =
    let s = c.in-Some-Some.slope in
    let slot = c.in-Some-Some.ensures.lookup in
    let there = slot-read c.args.curve.now.slopes.items c.deref.result.now c.saturating_add.result c.in-Some-Some.field-0.now s c.deref.ensures.value slot.0 slot.1 c.in-Some-Some.field-0-is in
    let fits : to_z w64 (of_z w64 c.in_ok-raw.raw) ≡ c.in_ok-raw.raw = omega (arith, ints) in
    let wide : to_z w128 (of_z w128 c.args.raw) ≡ c.args.raw = omega (arith, ints) in
    let raw : to_z w64 (of_z w64 c.in_ok-raw.raw) ≡ c.args.raw = fits ∙ (c.in_ok-raw.ensures ∙ wide) in
    let on : IsOnLine s c.args.raw c.in-Some.value.count = subst (λ (z : ℤ). IsOnLine s z c.in-Some.value.count) raw c.in-Some.ensures.value in
    let before : c.args.raw <ℤ (s.x +ℤ pos s.run) = subst (λ (z : ℤ). z <ℤ (s.x +ℤ pos s.run)) raw c.in-Some.ensures.before in
    on-slope c.args.curve.now.points.items c.args.curve.now.slopes.items c.saturating_add.result c.args.curve.now.inter s c.args.raw c.in-Some.value.count
    c.requires.climbs c.requires.slopes there.0 there.1 on before
