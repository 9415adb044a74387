use Rattle.build_laws.proofs.BuiltFacts.{read-gives-back}
use Rattle.build_laws.proofs.laws.built_of_read_gives_back.Goals as goal

pub returns : goal.returns
returns c = read-gives-back
