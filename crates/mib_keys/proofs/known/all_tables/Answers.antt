use Rattle.mib_keys.proofs.KnownFacts.{same-all}
use Rattle.mib_keys.proofs.known.all_tables.Goals as goal

pub returns-clause-same : goal.returns-clause-same
returns-clause-same c = same-all _
