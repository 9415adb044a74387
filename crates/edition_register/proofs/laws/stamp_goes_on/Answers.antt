use Rattle.edition_register.proofs.RegisterFacts.{goes-on}
use Rattle.edition_register.proofs.laws.stamp_goes_on.Goals as goal

pub returns : goal.returns
returns c = goes-on
