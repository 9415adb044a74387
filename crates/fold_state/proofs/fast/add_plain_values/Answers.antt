use Rattle.std.proofs.Common.{◌≡◌, ◌∙◌, ◌+◌, ◌++◌, ◌∷◌, [], List, sym, subst, take, ap, arith}
use Rattle.std.proofs.lemmas.List.{take_more}
use Rattle.mib_model.specs.declared.packet.Value.{Value}
use Rattle.param_state.specs.FinishedValues.{IsToldPlain, AreFinished}
use Rattle.param_state.proofs.ValueFacts.{are-more, are-none, each-item}
use Rattle.fold_state.proofs.fast.add_plain_values.Goals as goal

pub loop-value-init : goal.loop-value-init
loop-value-init c = record {
  finished = λ db memory told. are-none db c.args.packet.now memory c.args.out.now;
  room = omega arith;
}

pub loop-value-preserved : goal.loop-value-preserved
loop-value-preserved c =
    let i = c.loop-value.value-index in
    let values = c.args.values.now in
    let v = c.value-item.result in
    let below = c.loop-value-test.true in
    let is = c.value-item.is in
    let inv = c.loop-value.invariant in
    record {
      finished = λ db memory told.
          let one = c.add_plain_value.ensures.finished db memory (each-item (IsToldPlain db) values i v below is told) in
          let more = are-more db c.args.packet.now (take i values) v memory memory memory _ _ _ (inv.finished db memory told) one in
          let front : take (i + 1) values ≡ take i values ++ v ∷ [] = take_more values i v below ∙ ap (λ (x : Value). take i values ++ x ∷ []) (sym is) in
          subst (λ (vs : List Value). AreFinished db c.args.packet.now vs memory memory c.args.out.now c.add_plain_value.new.out) (sym front) more;
      room = let so_far = inv.room in let one = c.add_plain_value.ensures.room in omega arith;
    }
