use Rattle.edition_register.proofs.BoundedFacts.{moves-kept}
use Rattle.edition_register.proofs.laws.moves_kept.Goals as goal

pub returns : goal.returns
returns c = moves-kept
