use Rattle.std.proofs.Common.{◌≡◌, take}
use Rattle.param_state.specs.ParamPlans.{plan_names}
use Rattle.fold_state.proofs.board.Board.is_of.Given as goal

abbrev pub invariant-loop-at : goal.invariant-loop-at
invariant-loop-at l = take l.at l.self.names ≡ take l.at (plan_names l.params)
