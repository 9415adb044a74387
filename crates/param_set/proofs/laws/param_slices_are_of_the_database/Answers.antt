use Rattle.param_set.proofs.PlanFacts.{slices-of-database}
use Rattle.param_set.proofs.laws.param_slices_are_of_the_database.Goals as goal

pub returns : goal.returns
returns c = slices-of-database
