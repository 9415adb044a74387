use Rattle.memory_laws.proofs.AlikeFacts.{alike-serves, all_finished-alike}
use Rattle.memory_laws.proofs.alike.finishing_keeps_alike.Goals as goal

pub returns-clause-finished : goal.returns-clause-finished
returns-clause-finished c = all_finished-alike

pub returns-clause-serves : goal.returns-clause-serves
returns-clause-serves c = alike-serves
