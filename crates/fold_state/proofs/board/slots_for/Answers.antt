use Rattle.std.proofs.Common.{◌≡◌, ◌∙◌, ◌++◌, [], ◌∷◌, ◌<◌, List, ap, arith, get_or, length, map, subst, sym, take}
use Rattle.std.proofs.lemmas.List.{map_more, take_all}
use Rattle.std.specs.Arc.{arc_value}
use Rattle.param_state.specs.declared.slot.ParamSlot.{ParamSlot}
use Rattle.param_state.specs.ParamPlans.{plan_names}
use Rattle.param_state.specs.SlotViews.{slot_name, vacant_for}
use Rattle.fold_state.specs.Places.{Rise}
use Rattle.fold_state.proofs.BoardFacts.{names-vacant, rise-map}
use Rattle.param_state.proofs.NamedFacts.{plan-there}
use Rattle.param_plan.specs.Slices.{ParamSlice}
use Rattle.fold_state.proofs.board.slots_for.Goals as goal

pub loop-at-preserved : goal.loop-at-preserved
loop-at-preserved c =
    let params = c.args.params.now in
    let at = c.loop-at.at in
    let s = c.deref.result.now in
    let below : at < length params = omega (arith, c.loop-at-test.true, c.len-at-end.ensures.count) in
    let is = plan-there params at (arc_value c.plan.result.now) s c.deref.ensures c.plan.ensures in
    let own : c.new.result ≡ vacant_for (get_or params at s) = c.new.ensures ∙ ap (λ name. vacant_for (record s { pcf = record s.pcf { name = name } })) c.name.ensures ∙ ap vacant_for is in
    record {
      slots = c.push_reserved.ensures.items ∙ (λ i. c.loop-at.invariant.slots i ++ own i ∷ []) ∙ sym (map_more vacant_for params at s below);
      room = omega (arith, c.loop-at.invariant.room, c.push_reserved.ensures.capacity);
    }

pub returns-clause-rise : goal.returns-clause-rise
returns-clause-rise c =
    let params = c.args.params.now in
    let all : c.loop-at.slots.items ≡ map vacant_for params =
    c.loop-at.invariant.slots ∙ ap (map vacant_for) (take_all c.loop-at.at params (omega (arith, c.loop-at-test.false, c.len-at-end.ensures.count))) in
    subst Rise (sym (ap (map slot_name) all ∙ names-vacant params)) (rise-map params c.len-at-end.ensures.ascend)
