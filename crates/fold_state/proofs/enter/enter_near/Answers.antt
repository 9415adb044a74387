use Rattle.std.proofs.Common.{◌≡◌, ◌∙◌, ◌<◌, List, ℕ, length, take, refl, sym, subst, arith}
use Rattle.fold_state.specs.Boards.{board_of}
use Rattle.fold_state.specs.Entering.{HasEntered}
use Rattle.fold_state.specs.Places.{Rise}
use Rattle.param_state.specs.FinishedValues.{IsRaw}
use Rattle.param_state.proofs.ValueFacts.{each-item}
use Rattle.fold_state.proofs.EnterFacts.{entered-next}
use Rattle.fold_state.proofs.SeatFacts.{place-kept, seated-more}
use Rattle.fold_state.proofs.enter.enter_near.Goals as goal

pub loop-k-init : goal.loop-k-init
loop-k-init c = record {
  names = refl;
  seats = λ k v below within. absurd (omega (arith, below));
  memory = λ numbers asked m noted alike. alike;
}

pub is_named-requires : goal.is_named-requires
is_named-requires c = subst (λ (names : List (List ℕ)). Rise names) (sym c.loop-k.invariant.names) c.requires.rise

pub returns-then-not-is_named-clause-names : goal.returns-then-not-is_named-clause-names
returns-then-not-is_named-clause-names c = c.loop-k.invariant.names

pub returns-then-not-is_named-clause-seats : goal.returns-then-not-is_named-clause-seats
returns-then-not-is_named-clause-seats c = c.loop-k.invariant.seats

pub returns-then-not-is_named-clause-memory : goal.returns-then-not-is_named-clause-memory
returns-then-not-is_named-clause-memory c = c.loop-k.invariant.memory

pub loop-k-preserved : goal.loop-k-preserved
loop-k-preserved c =
    let k = c.loop-k.k in
    let values = c.args.values.now in
    let v = c.index-values-k.result in
    let board = board_of c.args.slots.now in
    let below = c.loop-k-test.true in
    let is = c.index-values-k.is in
    let same = c.loop-k.invariant.names in
    let here = c.is_named.ensures.place c.if-not-is_named.false in
    let within : k < length c.loop-k.seats = omega (arith, below, c.requires.seats, c.loop-k.auto.seats) in
    record {
      names = c.enter_asked.ensures.names ∙ same;
      seats = seated-more board values v k _ c.loop-k.seats below is within
          (place-kept (board_of c.loop-k.slots) board v.name same here) c.loop-k.invariant.seats;
      memory = λ numbers.
          let raw = each-item IsRaw values k v below is numbers in
          entered-next c.args.demands.now values board v k _ (board_of c.loop-k.slots) (board_of c.enter_asked.new.slots) below is
          (place-kept (board_of c.loop-k.slots) board v.name same here) (c.enter_asked.ensures.memory here raw) (c.loop-k.invariant.memory numbers);
    }

pub returns-clause-names : goal.returns-clause-names
returns-clause-names c = c.loop-k.invariant.names

pub returns-clause-seats : goal.returns-clause-seats
returns-clause-seats c = λ k v below within. c.loop-k.invariant.seats k v (omega (arith, below, c.loop-k-test.false)) within

pub returns-clause-memory : goal.returns-clause-memory
returns-clause-memory c = λ numbers.
    let past : c.loop-k.k ≡ length c.args.values.now = omega (arith, c.loop-k-test.false, c.loop-k.auto.k-end) in
    subst (λ (n : ℕ). HasEntered c.args.demands.now (take n c.args.values.now) (board_of c.args.slots.now) (board_of c.loop-k.slots)) past (c.loop-k.invariant.memory numbers)
