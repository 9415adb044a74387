use Rattle.std.proofs.Common.{◌≡◌, map, take}
use Rattle.std.specs.List.{All}
use Rattle.fold_state.specs.Boards.{board_of}
use Rattle.param_state.specs.SlotViews.{slot_name}
use Rattle.fold_state.specs.Entering.{HasEntered}
use Rattle.fold_state.specs.Premises.{AreSeated}
use Rattle.param_state.specs.FinishedValues.{IsRaw}
use Rattle.fold_state.proofs.enter.enter_near.Given as goal

abbrev pub invariant-loop-k : goal.invariant-loop-k
invariant-loop-k l = record {
  names : map slot_name l.slots ≡ map slot_name l.initial.slots;
  seats : AreSeated (board_of l.initial.slots) l.values l.k l.seats;
  memory : All IsRaw l.values → HasEntered l.demands (take l.k l.values) (board_of l.initial.slots) (board_of l.slots);
}
