use Rattle.std.proofs.Common.{◌∙◌, List, ℕ, Option, ap, sym, subst}
use Rattle.check_plan.specs.Samples.{sample_of}
use Rattle.mib_model.specs.Alarms.{alarm}
use Rattle.mib_model.specs.declared.check.Change.{Change}
use Rattle.mib_model.specs.Finish.{with_alarm}
use Rattle.mib_model.specs.Kept.{Kept, keeping}
use Rattle.fold_state.specs.Boards.{Slots, board_of, memory_of, place_of}
use Rattle.param_state.specs.SlotViews.{stepped}
use Rattle.fold_state.specs.Places.{Rise}
use Rattle.fold_state.proofs.BoardFacts.{board-set, kept-at, kept-set, names-set, slot-within, slots-long}
use Rattle.fold_state.proofs.board.Board.step.Goals as goal

pub invariant_of-self : goal.invariant_of-self
invariant_of-self c =
    let slots = c.self.inside.slots.items in
    let slot = c.index_mut.result.now in
    let below = slot-within slots c.args.self.now c.args.at c.self.view_is c.requires in
    subst (λ (names : List (List ℕ)). Rise names) (sym (names-set slots c.args.at slot c.step.new.self below c.index_mut.ensures.value c.step.ensures.name)) c.self.invariant

pub returns-clause-names : goal.returns-clause-names
returns-clause-names c =
    let slots = c.self.inside.slots.items in
    let slot = c.index_mut.result.now in
    let below = slot-within slots c.args.self.now c.args.at c.self.view_is c.requires in
    names-set slots c.args.at slot c.step.new.self below c.index_mut.ensures.value c.step.ensures.name ∙ ap (λ (b : Slots). b.names) c.self.view_is

pub returns-clause-stepped : goal.returns-clause-stepped
returns-clause-stepped c = λ name at.
    let slots = c.self.inside.slots.items in
    let slot = c.index_mut.result.now in
    let board = board_of slots in
    let here = ap (λ (b : Slots). place_of b name) c.self.view_is ∙ at in
    let below = slot-within slots c.args.self.now c.args.at c.self.view_is c.requires in
    let sample = sample_of c.args.sample in
    let kept = kept-at board name c.args.at slot (slots-long slots) here c.index_mut.ensures.value in
    let made = c.step.ensures.kept ∙ ap (λ (k : Kept). stepped k sample (alarm (k.spoken, k.run) c.args.class c.args.repeats)) kept in
    let set = ap memory_of (board-set slots c.args.at slot c.step.new.self below c.index_mut.ensures.value c.step.ensures.name) ∙ kept-set board name c.args.at c.step.new.self (slots-long slots) here in
    (λ i. (set i, c.step.result)) ∙ (ap (λ (m : Kept × Option Change). (keeping (memory_of board) name m.0, m.1)) made ∙
    ap (λ (b : Slots). with_alarm (memory_of b) name sample (alarm ((memory_of b name).spoken, (memory_of b name).run) c.args.class c.args.repeats)) c.self.view_is)
