use Rattle.tm_build.proofs.RightFacts.{builds-right}
use Rattle.tm_build.proofs.laws.builds_what_is_right.Goals as goal

pub returns : goal.returns
returns c = builds-right
