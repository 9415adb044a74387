use Rattle.std.proofs.Common.{◌∙◌, ◌+◌, List, inl, inr, length, refl, sym, subst, arith}
use Rattle.std.proofs.lemmas.Bool.{cases_lt}
use Rattle.std.proofs.lemmas.List.{take_all}
use Rattle.mib_model.specs.declared.packet.Value.{Value}
use Rattle.fold_state.specs.Entering.{HasEntered}
use Rattle.fold_state.specs.Premises.{AreSeated, HasSlot}
use Rattle.param_state.specs.FinishedValues.{IsRaw}
use Rattle.param_state.proofs.ValueFacts.{each-item}
use Rattle.fold_state.proofs.FinishFacts.{slot-kept}
use Rattle.fold_state.proofs.EnterFacts.{entered-next}
use Rattle.fold_state.proofs.SeatFacts.{seated-kept, seated-more, seated-past, place-kept, slots-kept}
use Rattle.fold_state.proofs.board.Board.enter_all.Goals as goal

pub loop-k-init : goal.loop-k-init
loop-k-init c = record {
  names = refl;
  seats = λ slots. seated-kept c.args.self.now c.enter_first-done.new.self c.args.values.now c.enter_first-done.result c.enter_first-done.new.seats.items c.enter_first-done.ensures.names
      c.enter_first-done.ensures.seats;
  memory = λ before named entered slots numbers. entered;
}

pub loop-k-preserved : goal.loop-k-preserved
loop-k-preserved c =
    let i = c.loop-k.k in
    let values = c.args.values.now in
    let v = c.index-values-k.result in
    let board = c.enter_first-done.new.self in
    let below = c.loop-k-test.true in
    let is = c.index-values-k.is in
    let same = c.loop-k.invariant.names in
    record {
      names = c.enter-at.ensures.names ∙ same;
      seats = λ slots.
          let slot = slot-kept board c.loop-k.self v.name same (each-item (λ (v : Value). HasSlot board v.name) values i v below is slots) in
          let here = place-kept c.loop-k.self board v.name same (c.enter-at.ensures.seat slot) in
          elim (cases_lt i (length c.loop-k.seats.items)) [
            | inl within ↦ subst (AreSeated board values (i + 1)) (sym (c.note_seat.ensures.noted within)) (seated-more board values v i c.enter-at.result c.loop-k.seats.items below is within here (c.loop-k.invariant.seats slots))
            | inr full ↦ subst (AreSeated board values (i + 1)) (sym (c.note_seat.ensures.past full)) (seated-past board values i c.loop-k.seats.items full (c.loop-k.invariant.seats slots))
          ];
      memory = λ before named entered slots numbers.
          let raw = each-item IsRaw values i v below is numbers in
          let slot = slot-kept board c.loop-k.self v.name same (each-item (λ (v : Value). HasSlot board v.name) values i v below is slots) in
          entered-next c.args.demands.now values before v i c.enter-at.result c.loop-k.self c.enter-at.new.self below is
          (place-kept c.loop-k.self before v.name (same ∙ named) (c.enter-at.ensures.seat slot)) (c.enter-at.ensures.memory slot raw) (c.loop-k.invariant.memory before named entered slots numbers);
    }

pub returns-clause-names : goal.returns-clause-names
returns-clause-names c = c.loop-k.invariant.names ∙ c.enter_first-done.ensures.names

pub returns-clause-seats : goal.returns-clause-seats
returns-clause-seats c = λ slots.
    let values = c.args.values.now in
    let board = c.enter_first-done.new.self in
    let same = c.enter_first-done.ensures.names in
    let seated = c.loop-k.invariant.seats (slots-kept c.args.self.now board values same slots) in
    seated-kept board c.args.self.now values (length values) c.loop-k.seats.items (sym same) (λ k v below within. seated k v (omega (arith, below, c.loop-k-test.false)) within)

pub returns-clause-memory : goal.returns-clause-memory
returns-clause-memory c = λ slots numbers.
    let values = c.args.values.now in
    let before = c.args.self.now in
    let board = c.enter_first-done.new.self in
    let same = c.enter_first-done.ensures.names in
    let entered = c.loop-k.invariant.memory before same (c.enter_first-done.ensures.memory numbers) (slots-kept before board values same slots) numbers in
    subst (λ (vs : List Value). HasEntered c.args.demands.now vs before c.loop-k.self) (take_all c.loop-k.k values c.loop-k-test.false) entered
