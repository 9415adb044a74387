use Rattle.std.proofs.Common.{◌∙◌, List, ℕ, ap, sym, subst, Some, ℤ}
use Rattle.std.proofs.lemmas.Int.{to_z-of_z}
use mir.Syntax.{w128}
use Rattle.mib_model.specs.Kept.{entered}
use Rattle.fold_state.specs.Boards.{Slots, board_of, memory_of, place_of}
use Rattle.param_state.specs.SlotViews.{kept_as}
use Rattle.fold_state.specs.Places.{Rise}
use Rattle.fold_state.proofs.BoardFacts.{board-set, latest-set, names-set, slot-within, slots-long}
use Rattle.fold_state.proofs.board.Board.set_latest.Goals as goal

pub invariant_of-self : goal.invariant_of-self
invariant_of-self c =
    let slots = c.self.inside.slots.items in
    let slot = c.index_mut.result.now in
    let below = slot-within slots c.args.self.now c.args.at c.self.view_is c.requires.at in
    subst (λ (names : List (List ℕ)). Rise names) (sym (names-set slots c.args.at slot c.enter.new.self below c.index_mut.ensures.value c.enter.ensures.name)) c.self.invariant

pub returns-clause-names : goal.returns-clause-names
returns-clause-names c =
    let slots = c.self.inside.slots.items in
    let slot = c.index_mut.result.now in
    let below = slot-within slots c.args.self.now c.args.at c.self.view_is c.requires.at in
    names-set slots c.args.at slot c.enter.new.self below c.index_mut.ensures.value c.enter.ensures.name ∙ ap (λ (b : Slots). b.names) c.self.view_is

pub returns-clause-memory : goal.returns-clause-memory
returns-clause-memory c = λ v at number same.
    let slots = c.self.inside.slots.items in
    let slot = c.index_mut.result.now in
    let below = slot-within slots c.args.self.now c.args.at c.self.view_is c.requires.at in
    let wrote = c.enter.ensures.kept ∙ ap (λ (n : ℤ). record (kept_as slot) { latest = Some n }) (to_z-of_z w128 c.args.raw c.ranges.raw ∙ sym same) in
    ap memory_of (board-set slots c.args.at slot c.enter.new.self below c.index_mut.ensures.value c.enter.ensures.name) ∙
    (latest-set (board_of slots) v c.args.at slot c.enter.new.self (slots-long slots) (ap (λ (b : Slots). place_of b v.name) c.self.view_is ∙ at) c.index_mut.ensures.value wrote number ∙
    ap (λ (b : Slots). entered (memory_of b) v) c.self.view_is)
