use Rattle.std.proofs.Common.{◌≡◌, ◌∙◌, ℤ, arith, Some, ap, get_or, sym}
use Rattle.std.proofs.lemmas.Int.{to_z-of_z}
use mir.Syntax.{w128}
use mir.Val.{to_z, of_z}
use Rattle.param_state.specs.declared.slot.ParamSlot.{ParamSlot}
use Rattle.fold_state.specs.Boards.{board_of, memory_of}
use Rattle.param_state.specs.SlotViews.{kept_as, slot_name}
use Rattle.fold_state.proofs.BoardFacts.{board-set, latest-set, names-set, slots-long}
use Rattle.fold_state.proofs.enter.enter_slot.Goals as goal

pub returns-then-is_raw-clause-names : goal.returns-then-is_raw-clause-names
returns-then-is_raw-clause-names c =
    let same = c.enter.ensures.name ∙ ap slot_name (sym c.index-slots-at.is) in
    names-set c.args.slots.now c.args.at c.index-slots-at.result c.enter.new.self c.requires c.index-slots-at.is same

pub returns-then-is_raw-clause-memory : goal.returns-then-is_raw-clause-memory
returns-then-is_raw-clause-memory c = λ here raw.
    let slots = c.args.slots.now in
    let slot = c.index-slots-at.result in
    let same = c.enter.ensures.name ∙ ap slot_name (sym c.index-slots-at.is) in
    let back : to_z w128 (of_z w128 c.args.value.now.raw) ≡ c.args.value.now.raw = grind (arith, to_z-of_z, raw.0, raw.1) in
    let wrote = c.enter.ensures.kept ∙ (ap (λ (n : ℤ). record (kept_as (get_or slots c.args.at slot)) { latest = Some n }) back ∙
    ap (λ (s : ParamSlot). record (kept_as s) { latest = Some c.args.value.now.raw }) (sym c.index-slots-at.is)) in
    let number = sym (c.is_raw.ensures.number raw) ∙ c.if-is_raw.true in
    ap memory_of (board-set slots c.args.at slot c.enter.new.self c.requires c.index-slots-at.is same) ∙
    latest-set (board_of slots) c.args.value.now c.args.at slot c.enter.new.self (slots-long slots) here c.index-slots-at.is wrote number
