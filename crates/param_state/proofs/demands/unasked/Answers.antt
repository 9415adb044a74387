use Rattle.std.proofs.Common.{◌≡◌, ◌∙◌, ◌++◌, [], ◌∷◌, ◌<◌, ap, arith, false, get_or, length, map, sym, take}
use Rattle.std.proofs.lemmas.List.{map_more, take_all}
use Rattle.std.specs.Arc.{arc_value}
use Rattle.param_state.specs.declared.demands.Demand.{Demand}
use Rattle.param_state.specs.Demands.{unasked_for}
use Rattle.param_state.proofs.NamedFacts.{plan-there}
use Rattle.param_state.proofs.demands.unasked.Goals as goal

pub loop-at-preserved : goal.loop-at-preserved
loop-at-preserved c =
    let params = c.args.params.now in
    let at = c.loop-at.at in
    let s = c.deref.result.now in
    let below : at < length params = omega (arith, c.loop-at-test.true, c.len-at-end.ensures.count) in
    let is = plan-there params at (arc_value c.plan.result.now) s c.deref.ensures c.plan.ensures in
    let own : ◌≡◌ {A = Demand} (record { plain = c.is_plain.result; asked = false }) (unasked_for (get_or params at s)) =
    ap (λ plain. record { plain = plain; asked = false }) c.is_plain.ensures ∙ ap unasked_for is in
    c.in_ok-push.ensures.items ∙ (λ i. c.loop-at.invariant i ++ own i ∷ []) ∙ sym (map_more unasked_for params at s below)

pub returns : goal.returns
returns c =
    let params = c.args.params.now in
    c.loop-at.invariant ∙ ap (map unasked_for) (take_all c.loop-at.at params (omega (arith, c.loop-at-test.false, c.len-at-end.ensures.count)))
