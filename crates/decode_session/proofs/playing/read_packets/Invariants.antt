use Rattle.std.proofs.Common.{◌≡◌, ◌≤◌, ℕ, List, length}
use Rattle.std.specs.List.{All}
use Rattle.decode_session.specs.Ahead.{Come}
use Rattle.decode_session.proofs.AheadFacts.{HasRead}
use Rattle.decode_session.proofs.playing.read_packets.Given as goal
use Rattle.mib_model.specs.Packets.{IsPacket}
use Rattle.packet_feed.specs.Feed.{SourceStays, source_of}

abbrev pub invariant-loop-k : goal.invariant-loop-k
invariant-loop-k g l = record {
  read : (packets : List (List ℕ)) → All IsPacket packets → l.count ≤ length packets → Come packets (g.S.Source.left (source_of l.initial.feed))
      → HasRead packets l.k (g.S.Source.left (source_of l.initial.feed)) (g.S.Source.left (source_of l.feed));
  faults : g.S.Source.faults (source_of l.feed) ≡ g.S.Source.faults (source_of l.initial.feed);
  stays : SourceStays g.S.Source.holds g.S.Source.missed g.S.Source.borrow (source_of l.initial.feed) (source_of l.feed);
}
