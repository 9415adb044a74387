use Rattle.param_plan.proofs.LawFacts.{have-curves}
use Rattle.param_plan.proofs.laws.slices_have_curves.Goals as goal

pub returns : goal.returns
returns c = have-curves
