use Rattle.std.proofs.Common.{◌∙◌, List, ℕ, Option, ap, sym, subst}
use Rattle.mib_model.specs.Alarms.{alarm}
use Rattle.mib_model.specs.Checks.{Numbered}
use Rattle.mib_model.specs.declared.check.Change.{Change}
use Rattle.mib_model.specs.declared.check.Class.TheVariants.{Nominal}
use Rattle.mib_model.specs.Kept.{Kept, keeping}
use Rattle.fold_state.specs.Boards.{Slots, board_of, memory_of, place_of}
use Rattle.param_state.specs.SlotViews.{stepped}
use Rattle.fold_state.specs.Places.{Rise}
use Rattle.line_marks.specs.Marks.{after_nominal}
use Rattle.fold_state.proofs.BoardFacts.{board-set, kept-at, kept-set, names-set, slot-within, slots-long}
use Rattle.fold_state.proofs.board.Board.step_nominal.Goals as goal

pub invariant_of-self : goal.invariant_of-self
invariant_of-self c =
    let slots = c.self.inside.slots.items in
    let slot = c.index_mut.result.now in
    let below = slot-within slots c.args.self.now c.args.at c.self.view_is c.requires in
    subst (λ (names : List (List ℕ)). Rise names) (sym (names-set slots c.args.at slot c.step_nominal.new.self below c.index_mut.ensures.value c.step_nominal.ensures.name)) c.self.invariant

pub returns-clause-names : goal.returns-clause-names
returns-clause-names c =
    let slots = c.self.inside.slots.items in
    let slot = c.index_mut.result.now in
    let below = slot-within slots c.args.self.now c.args.at c.self.view_is c.requires in
    names-set slots c.args.at slot c.step_nominal.new.self below c.index_mut.ensures.value c.step_nominal.ensures.name ∙ ap (λ (b : Slots). b.names) c.self.view_is

pub returns-clause-stepped : goal.returns-clause-stepped
returns-clause-stepped c = λ name at.
    let slots = c.self.inside.slots.items in
    let slot = c.index_mut.result.now in
    let board = board_of slots in
    let here = ap (λ (b : Slots). place_of b name) c.self.view_is ∙ at in
    let below = slot-within slots c.args.self.now c.args.at c.self.view_is c.requires in
    let count = c.args.number.count in
    let kept = kept-at board name c.args.at slot (slots-long slots) here c.index_mut.ensures.value in
    let made = c.step_nominal.ensures.kept ∙ ap (λ (k : Kept). stepped k (Numbered count) (alarm (k.spoken, k.run) Nominal 0)) kept in
    let set = ap memory_of (board-set slots c.args.at slot c.step_nominal.new.self below c.index_mut.ensures.value c.step_nominal.ensures.name) ∙ kept-set board name c.args.at c.step_nominal.new.self (slots-long slots) here in
    (λ i. (set i, c.step_nominal.result)) ∙ (ap (λ (m : Kept × Option Change). (keeping (memory_of board) name m.0, m.1)) made ∙
    ap (λ (b : Slots). after_nominal (memory_of b) name count) c.self.view_is)
