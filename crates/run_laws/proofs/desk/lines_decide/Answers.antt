use Rattle.run_laws.proofs.DeskFacts.{decided}
use Rattle.run_laws.proofs.desk.lines_decide.Goals as goal

pub returns : goal.returns
returns c = decided
