use Rattle.edition_register.proofs.BoundedFacts.{bounded-serves}
use Rattle.edition_register.proofs.laws.bounded_serves.Goals as goal

pub returns : goal.returns
returns c = bounded-serves
