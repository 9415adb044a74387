use Rattle.run_laws.proofs.RegisterFacts.{after-grows}
use Rattle.run_laws.proofs.register.editions_only_grow.Goals as goal

pub returns : goal.returns
returns c = after-grows
