use Rattle.std.proofs.Common.{◌≡◌, take}
use Rattle.std.specs.List.{All}
use Rattle.fold_state.specs.Boards.{Slots}
use Rattle.fold_state.specs.Entering.{HasEntered}
use Rattle.fold_state.specs.Premises.{AreSeated, HasSlot}
use Rattle.param_state.specs.FinishedValues.{IsRaw}
use Rattle.fold_state.proofs.board.Board.enter_all.Given as goal

abbrev pub invariant-loop-k : goal.invariant-loop-k
invariant-loop-k l = record {
  names : l.self.names ≡ l.initial.self.names;
  seats : All (λ v. HasSlot l.initial.self v.name) l.values → AreSeated l.initial.self l.values l.k l.seats.items;
  memory : (before : Slots) → l.initial.self.names ≡ before.names → HasEntered l.demands (take l.done l.values) before l.initial.self
      → All (λ v. HasSlot l.initial.self v.name) l.values → All IsRaw l.values → HasEntered l.demands (take l.k l.values) before l.self;
}
