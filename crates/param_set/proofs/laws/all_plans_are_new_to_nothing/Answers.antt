use Rattle.param_set.proofs.SharingFacts.{all-new}
use Rattle.param_set.proofs.laws.all_plans_are_new_to_nothing.Goals as goal

pub returns : goal.returns
returns c = all-new
