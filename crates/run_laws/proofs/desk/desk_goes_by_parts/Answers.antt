use Rattle.run_laws.proofs.DeskFacts.{split, joined}
use Rattle.run_laws.proofs.desk.desk_goes_by_parts.Goals as goal

pub returns : goal.returns
returns c = λ several old front lines calls replies new. (split several old front lines calls replies new, joined several old front lines calls replies new)
