use Rattle.edition_register.proofs.RegisterFacts.{intake-counts}
use Rattle.edition_register.proofs.laws.intake_counts.Goals as goal

pub returns : goal.returns
returns c = intake-counts
