use Rattle.std.proofs.Common.{◌∙◌, sym}
use Rattle.tm_drill.specs.Draws.{state_after}
use Rattle.tm_drill.proofs.FeedFacts.{none-yet}
use Rattle.tm_drill.proofs.feed.first_packets.Goals as goal

pub loop-index-init : goal.loop-index-init
unfolding state_after
loop-index-init c = record {
  octets = c.in_ok-feed.ensures.items ∙ sym (none-yet c.args.seed);
  state = c.new-draws.ensures;
}
