use Rattle.row_laws.proofs.SameFacts.{same_values-Decides}
use Rattle.row_laws.proofs.same_is_equal.Goals as goal

pub returns : goal.returns
returns c = same_values-Decides
