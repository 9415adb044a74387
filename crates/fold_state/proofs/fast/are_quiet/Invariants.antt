use Rattle.std.proofs.Common.{ℕ, ◌<◌, get_or}
use Rattle.fold_state.specs.Boards.{board_of}
use Rattle.fold_state.specs.Entering.{IsQuiet}
use Rattle.mib_model.specs.declared.packet.Value.{Value}
use Rattle.fold_state.proofs.fast.are_quiet.Given as goal

abbrev pub invariant-loop-k : goal.invariant-loop-k
invariant-loop-k l = (j : ℕ) (d : Value) → j < l.k → IsQuiet l.demands (board_of l.slots) (get_or l.values j d).name
