use Rattle.std.proofs.Common.{◌≡◌, ◌∙◌, ◌<◌, [], ap, bytes_eq, length, get_or, map, sym, arith}
use Rattle.param_state.specs.declared.slot.ParamSlot.{ParamSlot}
use Rattle.param_state.specs.SlotViews.{slot_name}
use Rattle.fold_state.proofs.BoardFacts.{name-at, place-risen, slots-long}
use Rattle.param_state.proofs.NamedFacts.{same-name}
use Rattle.fold_state.proofs.enter.is_named.Goals as goal

pub returns-then-at-slots-clause-place : goal.returns-then-at-slots-clause-place
returns-then-at-slots-clause-place c = λ equal.
    let slots = c.args.slots.now in
    let at = c.args.at in
    let slot = c.index-slots-at.result in
    let long = slots-long slots in
    let within : at < length (map slot_name slots) = omega (arith, c.if-at-slots.true, long) in
    let here : get_or (map slot_name slots) at [] ≡ c.args.name.now = name-at slots at slot c.if-at-slots.true c.index-slots-at.is ∙ same-name slot.name c.args.name.now (ap (λ (s : ParamSlot). bytes_eq s.name c.args.name.now) c.index-slots-at.is ∙ (sym c.eq.ensures ∙ equal)) in
    place-risen (map slot_name slots) c.args.name.now at c.requires within here
