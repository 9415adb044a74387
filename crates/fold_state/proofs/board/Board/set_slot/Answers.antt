use Rattle.std.proofs.Common.{◌∙◌, List, ℕ, ap, sym, subst}
use Rattle.mib_model.specs.Kept.{keeping}
use Rattle.fold_state.specs.Boards.{Slots, board_of, memory_of, place_of}
use Rattle.param_state.specs.SlotViews.{kept_as}
use Rattle.fold_state.specs.Places.{Rise}
use Rattle.fold_state.proofs.BoardFacts.{board-set, kept-set, names-set, slot-within, slots-long}
use Rattle.fold_state.proofs.board.Board.set_slot.Goals as goal

pub invariant_of-self : goal.invariant_of-self
invariant_of-self c =
    let slots = c.self.inside.slots.items in
    let slot = c.index_mut.result.now in
    let below = slot-within slots c.args.self.now c.args.at c.self.view_is c.requires in
    subst (λ (names : List (List ℕ)). Rise names) (sym (names-set slots c.args.at slot c.keep.new.self below c.index_mut.ensures.value c.keep.ensures.name)) c.self.invariant

pub returns-clause-names : goal.returns-clause-names
returns-clause-names c =
    let slots = c.self.inside.slots.items in
    let slot = c.index_mut.result.now in
    let below = slot-within slots c.args.self.now c.args.at c.self.view_is c.requires in
    names-set slots c.args.at slot c.keep.new.self below c.index_mut.ensures.value c.keep.ensures.name ∙ ap (λ (b : Slots). b.names) c.self.view_is

pub returns-clause-memory : goal.returns-clause-memory
returns-clause-memory c = λ name at.
    let slots = c.self.inside.slots.items in
    let slot = c.index_mut.result.now in
    let below = slot-within slots c.args.self.now c.args.at c.self.view_is c.requires in
    ap memory_of (board-set slots c.args.at slot c.keep.new.self below c.index_mut.ensures.value c.keep.ensures.name) ∙
    (kept-set (board_of slots) name c.args.at c.keep.new.self (slots-long slots) (ap (λ (b : Slots). place_of b name) c.self.view_is ∙ at) ∙
    (ap (keeping (memory_of (board_of slots)) name) c.keep.ensures.kept ∙ ap (λ (b : Slots). keeping (memory_of b) name (kept_as c.args.slot)) c.self.view_is))
