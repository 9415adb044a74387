use Rattle.std.proofs.Common.{◌≡◌, ◌-◌, [], length}
use Rattle.packet_feed.specs.Feed.{source_of}
use Rattle.packet_feed.specs.declared.feed.TheConstants.{PACKET_SIZE}
use Rattle.mibtm_audit.proofs.RunFacts.{Goes}
use Rattle.mibtm_audit.specs.Courses.{Against, IsUnderway, Stands}
use Rattle.mibtm_audit.proofs.comparing.expect_all.Given as goal

abbrev pub invariant-loop-code : goal.invariant-loop-code
invariant-loop-code g l = record {
  room : length l.buffer ≡ PACKET_SIZE;
  underway : IsUnderway l.audit;
  goes : (a : Against) → Stands a [] l.initial.audit → Goes a l.audit (g.F.Source.left (source_of l.initial.feed)) (g.F.Source.left (source_of l.feed));
  faults : g.F.Source.faults (source_of l.feed) ≡ g.F.Source.faults (source_of l.initial.feed);
  missed : g.F.Source.missed (source_of l.feed) ≡ g.F.Source.missed (source_of l.initial.feed);
  borrow : g.F.Source.borrow (source_of l.feed) ≡ g.F.Source.borrow (source_of l.initial.feed);
}

abbrev pub decreases-loop-code : goal.decreases-loop-code
decreases-loop-code g l = 67108865 - l.audit.packets
