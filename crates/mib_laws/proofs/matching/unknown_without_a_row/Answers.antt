use Rattle.mib_laws.proofs.MatchFacts.{unknown-without}
use Rattle.mib_laws.proofs.matching.unknown_without_a_row.Goals as goal

pub returns : goal.returns
returns c = unknown-without
