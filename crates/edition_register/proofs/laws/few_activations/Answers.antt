use Rattle.edition_register.proofs.BoundedFacts.{few-activations}
use Rattle.edition_register.proofs.laws.few_activations.Goals as goal

pub returns : goal.returns
returns c = few-activations
