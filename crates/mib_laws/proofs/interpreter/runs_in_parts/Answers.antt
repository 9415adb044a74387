use Rattle.mib_laws.proofs.RunFacts.{interpret-append}
use Rattle.mib_laws.proofs.interpreter.runs_in_parts.Goals as goal

pub returns : goal.returns
returns c = interpret-append
