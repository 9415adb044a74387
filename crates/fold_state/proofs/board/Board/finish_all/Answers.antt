use Rattle.std.proofs.Common.{◌≡◌, ◌∙◌, ◌+◌, ◌++◌, ◌∷◌, [], List, refl, sym, subst, take, ap, arith}
use Rattle.std.proofs.lemmas.List.{take_more}
use Rattle.mib_model.specs.declared.packet.Value.{Value}
use Rattle.fold_state.specs.Boards.{memory_of, place_of}
use Rattle.param_state.specs.FinishedValues.{AreFinished, IsRaw}
use Rattle.fold_state.specs.Premises.{HasSlot}
use Rattle.param_state.proofs.ValueFacts.{are-none, are-more, each-item}
use Rattle.fold_state.proofs.FinishFacts.{slot-kept}
use Rattle.fold_state.proofs.SeatFacts.{seated-kept}
use Rattle.fold_state.proofs.board.Board.finish_all.Goals as goal

pub loop-k-init : goal.loop-k-init
loop-k-init c = record {
  names = refl;
  finished = λ db fits seated. are-none db c.args.packet.now (memory_of c.args.self.now) c.args.out.now;
  room = omega arith;
}

pub loop-k-preserved : goal.loop-k-preserved
loop-k-preserved c = record {
  names = c.finish_value.ensures.names ∙ c.loop-k.invariant.names;
  finished = λ db fits seated.
      let i = c.loop-k.k in
      let values = c.args.values.now in
      let v = c.index-values-k.result in
      let same = c.loop-k.invariant.names in
      let slot = slot-kept c.args.self.now c.loop-k.self v.name same (each-item (λ (v : Value). HasSlot c.args.self.now v.name) values i v c.loop-k-test.true c.index-values-k.is fits.slots) in
      let raw = each-item IsRaw values i v c.loop-k-test.true c.index-values-k.is fits.numbers in
      let noted = seated-kept c.args.self.now c.loop-k.self values _ c.args.seats.now same seated in
      let at = c.seat_of-seat.ensures (λ within. ap (λ (x : Value). place_of c.loop-k.self x.name) c.index-values-k.is ∙ noted i v c.loop-k-test.true within) slot in
      let one = c.finish_value.ensures.finished db fits.plans (same ∙ fits.names) at raw in
      let more = are-more db c.args.packet.now (take i values) v _ _ _ _ _ _ (c.loop-k.invariant.finished db fits seated) one in
      let front : take (i + 1) values ≡ _ = take_more values i v c.loop-k-test.true in
      subst (λ (vs : List Value). AreFinished db c.args.packet.now vs (memory_of c.args.self.now) (memory_of c.finish_value.new.self) c.args.out.now c.finish_value.new.out) (sym (front ∙ ap (λ (x : Value). take i values ++ x ∷ []) (sym c.index-values-k.is))) more;
  room = omega arith;
}
