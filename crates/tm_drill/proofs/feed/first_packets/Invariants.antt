use Rattle.std.proofs.Common.{◌≡◌, ◌*◌}
use Rattle.std.specs.List.{concat}
use Rattle.tm_drill.specs.Draws.{state_after}
use Rattle.tm_drill.specs.Feed.{first_packets}
use Rattle.tm_drill.proofs.feed.first_packets.Given as goal

abbrev pub invariant-loop-index : goal.invariant-loop-index
invariant-loop-index l = record {
  octets : l.feed.items ≡ concat (first_packets l.seed l.index);
  state : l.draws ≡ state_after l.seed (3 * l.index);
}
