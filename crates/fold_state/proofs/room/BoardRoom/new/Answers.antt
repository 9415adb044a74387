use Rattle.param_state.specs.ParamPlans.{plan_names}
use Rattle.fold_state.proofs.BoardFacts.{kept-empty}
use Rattle.fold_state.proofs.room.BoardRoom.new.Goals as goal

pub returns-clause-memory : goal.returns-clause-memory
returns-clause-memory c = λ i name. kept-empty (plan_names c.of.result.value) name i
