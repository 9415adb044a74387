use Rattle.std.proofs.Common.{length, ◌-◌, ◌≡◌, ◌≤◌, take}
use Rattle.std.specs.Io.KnownBytes.{Consumes}
use Rattle.packet_feed.proofs.feed.fill.Given as goal

abbrev pub invariant-loop-at : goal.invariant-loop-at
invariant-loop-at g l = record {
  within : l.at ≤ length l.buf;
  octets : Consumes (g.S.Source.left l.initial.source) (g.S.Source.left l.source) (take l.at l.buf);
  faults : g.S.Source.faults l.source ≡ g.S.Source.faults l.initial.source;
  holds : g.S.Source.holds l.source ≡ g.S.Source.holds l.initial.source;
  missed : g.S.Source.missed l.source ≡ g.S.Source.missed l.initial.source;
  borrow : g.S.Source.borrow l.source ≡ g.S.Source.borrow l.initial.source;
}

abbrev pub decreases-loop-at : goal.decreases-loop-at
decreases-loop-at g l = length l.buf - l.at
