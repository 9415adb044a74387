use Rattle.run_laws.proofs.AloneFacts.{decided}
use Rattle.run_laws.proofs.desk.lines_alone_decide.Goals as goal

pub returns : goal.returns
returns c = decided
