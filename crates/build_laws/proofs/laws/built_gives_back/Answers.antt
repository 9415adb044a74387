use Rattle.build_laws.proofs.BuiltFacts.{gives-back}
use Rattle.build_laws.proofs.laws.built_gives_back.Goals as goal

pub returns : goal.returns
returns c = gives-back
