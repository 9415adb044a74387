use Rattle.mib_rows.proofs.LawFacts.{written_is_read}
use Rattle.mib_rows.proofs.laws.written_is_read.Goals as goal

pub returns : goal.returns
returns c = written_is_read
