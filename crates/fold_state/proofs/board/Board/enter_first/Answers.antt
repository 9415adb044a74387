use Rattle.std.proofs.Common.{◌≡◌, ◌∙◌, List, length, ap, arith, subst, sym, take}
use Rattle.std.proofs.lemmas.List.{with_items_is}
use Rattle.param_state.specs.declared.slot.ParamSlot.{ParamSlot}
use Rattle.fold_state.specs.Boards.{Slots, board_of}
use Rattle.fold_state.specs.Entering.{HasEntered}
use Rattle.fold_state.proofs.board.Board.enter_first.Goals as goal

pub returns-clause-memory : goal.returns-clause-memory
returns-clause-memory c = λ numbers.
    let demands = c.args.demands.now in
    let first = take c.enter_near.result c.args.values.now in
    let entered = subst (λ (before : Slots). HasEntered demands first before (board_of c.enter_near.new.slots)) (ap board_of c.deref_mut.ensures.value ∙ c.self.view_is) (c.enter_near.ensures.memory numbers) in
    let same : length c.deref_mut.result.now ≡ length c.self.inside.slots.items = ap (λ (slots : List ParamSlot). length slots) c.deref_mut.ensures.value in
    let long : length c.enter_near.new.slots ≡ c.self.inside.slots.len = omega (arith, c.enter_near.auto.slots, same, c.self.inside.slots.ok.0) in
    subst (λ (slots : List ParamSlot). HasEntered demands first c.args.self.now (board_of slots)) (sym (with_items_is c.self.inside.slots c.enter_near.new.slots long)) entered
