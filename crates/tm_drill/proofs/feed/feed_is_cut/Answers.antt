use Rattle.tm_drill.proofs.FeedFacts.{packets-cut}
use Rattle.tm_drill.specs.declared.feed.TheConstants.{PACKETS}
use Rattle.tm_drill.proofs.feed.feed_is_cut.Goals as goal

pub returns : goal.returns
returns c = λ seed. packets-cut seed PACKETS
