use Rattle.mib_laws.proofs.Ends.{walks-end}
use Rattle.mib_laws.proofs.walk.walks_end.Goals as goal

pub returns : goal.returns
returns c = walks-end
