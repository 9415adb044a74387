use Rattle.run_laws.proofs.RegisterFacts.{stays-stamped}
use Rattle.run_laws.proofs.register.what_is_stamped_stays.Goals as goal

pub returns : goal.returns
returns c = stays-stamped
