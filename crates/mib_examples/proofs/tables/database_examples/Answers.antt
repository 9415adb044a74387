use Rattle.mib_examples.proofs.ComputedTables.{database_examples}
use Rattle.mib_examples.proofs.tables.database_examples.Goals as goal

pub returns : goal.returns
returns c = database_examples
