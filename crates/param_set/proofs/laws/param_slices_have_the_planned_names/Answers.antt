use Rattle.param_set.proofs.PlanFacts.{slices-planned_names}
use Rattle.param_set.proofs.laws.param_slices_have_the_planned_names.Goals as goal

pub returns : goal.returns
returns c = slices-planned_names
