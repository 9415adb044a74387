use Rattle.memory_laws.proofs.AlikeFacts.{alike-is-same}
use Rattle.memory_laws.proofs.alike.alike_is_same.Goals as goal

pub returns : goal.returns
returns c = alike-is-same
