use Rattle.std.proofs.Common.{◌≡◌, ◌∙◌, [], ℕ, List, false, ap, arith, get_or, length, map, subst, sym, take}
use Rattle.std.proofs.lemmas.Bool.Decides.{nat_tests}
use Rattle.std.proofs.lemmas.List.{nil_from_length}
use Rattle.std.proofs.lemmas.List.Elements.{All-push}
use Rattle.std.specs.Arc.{arc_value}
use Rattle.param_plan.specs.Slices.{ParamSlice}
use Rattle.param_set.proofs.ImageFacts.{images-all, images-more}
use Rattle.param_changes.proofs.TouchFacts.{takes-none}
use Rattle.param_changes.specs.Beside.{AreFreeOf, has_changed_curve}
use Rattle.param_changes.specs.Changed.{takes_any}
use Rattle.param_changes.proofs.touch.has_changed_curve.Goals as goal

pub returns-then-is_empty : goal.returns-then-is_empty
returns-then-is_empty c = λ none k d below.
    let curves = c.args.changed.now.curves.items in
    let empty : curves ≡ [] = nil_from_length curves (grind (arith, nat_tests, sym c.if-is_empty.ensures, ap length c.curves.ensures)) in
    let s = get_or c.args.block.now k d in
    ap (λ (names : List (List ℕ)). takes_any names s.pcf.curtx s.curs) empty ∙ takes-none s.pcf.curtx s.curs

pub loop-plan-preserved : goal.loop-plan-preserved
loop-plan-preserved c =
    let i = c.loop-plan.plan-index in
    let plans = c.plans-plan-items.result.now in
    let changed = c.args.changed.now in
    let free : has_changed_curve changed (arc_value c.plan-item.result) ≡ false =
    ap (λ (s : ParamSlice). takes_any changed.curves.items s.pcf.curtx s.curs) (sym (c.rows.ensures ∙ c.deref.ensures)) ∙ sym c.has_curve_of.ensures ∙ c.if-has_curve_of.false in
    subst (AreFreeOf changed) (sym (images-more arc_value plans i c.plan-item.result c.loop-plan-test.true c.plan-item.is))
    (All-push (λ slice. has_changed_curve changed slice ≡ false) (map arc_value (take i plans)) (arc_value c.plan-item.result) c.loop-plan.invariant free)

pub returns : goal.returns
returns c = λ none.
    subst (AreFreeOf c.args.changed.now) (images-all arc_value c.plans-plan-items.result.now c.args.block.now c.plans-plan-items.ensures c.loop-plan.plan-index c.loop-plan-test.false) c.loop-plan.invariant
