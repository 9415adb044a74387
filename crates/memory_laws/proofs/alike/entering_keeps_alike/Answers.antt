use Rattle.memory_laws.proofs.AlikeFacts.{entered-alike}
use Rattle.memory_laws.proofs.alike.entering_keeps_alike.Goals as goal

pub returns : goal.returns
returns c = entered-alike
