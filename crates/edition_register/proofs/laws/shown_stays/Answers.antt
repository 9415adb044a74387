use Rattle.edition_register.proofs.ShownFacts.{shown-stays}
use Rattle.edition_register.proofs.laws.shown_stays.Goals as goal

pub returns : goal.returns
returns c = shown-stays
