use Rattle.mib_laws.proofs.Ends.{walks-end}
use Rattle.mib_laws.proofs.LimitFacts.{limit-serves}
use Rattle.mib_laws.proofs.walk.limit_serves.Goals as goal

pub returns : goal.returns
returns c = λ db sound packet tpsd dfhsize. limit-serves db packet walks-end sound tpsd dfhsize
