use Rattle.edition_register.proofs.RegisterFacts.{tables-stay}
use Rattle.edition_register.proofs.laws.tables_stay.Goals as goal

pub returns : goal.returns
returns c = tables-stay
