use Rattle.edition_register.proofs.BoundedFacts.{keeps-one}
use Rattle.edition_register.proofs.laws.keeps_one_in_use.Goals as goal

pub returns : goal.returns
returns c = keeps-one
