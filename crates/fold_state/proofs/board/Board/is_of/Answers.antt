use Rattle.std.proofs.Common.{◌≡◌, ◌∙◌, ◌<◌, List, [], ℕ, ap, arith, get_or, length, map, sym, subst}
use Rattle.std.proofs.lemmas.List.{get_or-map, length-map, take_all, take_more_same}
use Rattle.std.specs.Arc.{arc_value}
use Rattle.param_plan.specs.Slices.{ParamSlice}
use Rattle.fold_state.specs.Boards.{Slots}
use Rattle.param_state.specs.ParamPlans.{plan_names}
use Rattle.param_state.specs.SlotViews.{slot_name}
use Rattle.fold_state.proofs.BoardFacts.{name-at}
use Rattle.param_state.proofs.NamedFacts.{plan-there, same-name}
use Rattle.fold_state.proofs.board.Board.is_of.Goals as goal

pub loop-at-preserved : goal.loop-at-preserved
loop-at-preserved c =
    let slots = c.self.inside.slots.items in
    let params = c.args.params.now in
    let at = c.loop-at.at in
    let s = c.deref.result.now in
    let slot = c.index.result.now in
    let names : map slot_name slots ≡ c.args.self.now.names = ap (λ (b : Slots). b.names) c.self.view_is in
    let long = length-map slots slot_name in
    let within : at < length params = omega (arith, c.loop-at-test.true, c.len-at-end.ensures.count) in
    let named = length-map params (λ (slice : ParamSlice). slice.pcf.name) in
    let below : at < length slots = omega (arith, within, c.if-len.false, c.len.ensures, c.len-2.ensures.count) in
    let is = plan-there params at (arc_value c.plan.result.now) s c.deref.ensures c.plan.ensures in
    let own : get_or c.args.self.now.names at [] ≡ slot.name = ap (λ (ns : List (List ℕ)). get_or ns at []) (sym names) ∙ name-at slots at slot below c.index.ensures in
    let other : get_or (plan_names params) at [] ≡ s.pcf.name = get_or-map (λ (slice : ParamSlice). slice.pcf.name) params at s [] within ∙ ap (λ (slice : ParamSlice). slice.pcf.name) (sym is) in
    let same : s.pcf.name ≡ slot.name = same-name s.pcf.name slot.name (sym c.if-not-is_named.ensures) in
    take_more_same c.args.self.now.names (plan_names params) at [] (omega (arith, below, long, ap length names)) (omega (arith, within, named)) c.loop-at.invariant (own ∙ sym same ∙ sym other)
