use Rattle.mib_laws.proofs.CutFacts.{each-cut}
use Rattle.mib_laws.proofs.cut.each_feed_is_cut.Goals as goal

pub returns : goal.returns
returns c = each-cut
