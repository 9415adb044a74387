use Rattle.param_set.proofs.PlanFacts.{new-plans-touched}
use Rattle.param_set.proofs.laws.new_plans_are_touched.Goals as goal

pub returns : goal.returns
returns c = new-plans-touched
