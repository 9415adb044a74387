use Rattle.packet_feed.proofs.Unique.{cut-unique}
use Rattle.packet_feed.proofs.feed.cut_is_unique.Goals as goal

pub returns : goal.returns
returns c = cut-unique
