use Rattle.std.proofs.Common.{◌≡◌, ◌≤◌, length, map, take}
use Rattle.std.specs.Vec.{vec_capacity}
use Rattle.param_state.specs.SlotViews.{vacant_for}
use Rattle.fold_state.proofs.board.slots_for.Given as goal

abbrev pub invariant-loop-at : goal.invariant-loop-at
invariant-loop-at l = record {
  slots : l.slots.items ≡ map vacant_for (take l.at l.params);
  room : length l.params ≤ vec_capacity l.slots;
}
