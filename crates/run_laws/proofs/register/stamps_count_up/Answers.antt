use Rattle.run_laws.proofs.RegisterFacts.{count-up}
use Rattle.run_laws.proofs.register.stamps_count_up.Goals as goal

pub returns : goal.returns
returns c = count-up
