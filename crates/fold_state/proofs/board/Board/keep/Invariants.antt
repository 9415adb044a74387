use Rattle.std.proofs.Common.{◌≡◌}
use Rattle.param_state.specs.ParamPlans.{IsParamsOf}
use Rattle.mib_model.specs.declared.database.Database.{Database}
use Rattle.fold_state.proofs.CarryFacts.{CarriedBelow, KeptFrom}
use Rattle.fold_state.proofs.board.Board.keep.Given as goal

abbrev pub invariant-loop-at : goal.invariant-loop-at
invariant-loop-at l = record {
  names : l.self.names ≡ l.initial.self.names;
  carried : (before after : Database) → IsParamsOf before l.from → IsParamsOf after l.to → CarriedBelow l.at l.self l.initial.self before after;
  kept : (before after : Database) → IsParamsOf before l.from → IsParamsOf after l.to → KeptFrom l.at l.self l.initial.self;
}
