use Rattle.std.proofs.Common.{length, ◌-◌, ◌≡◌, ◌≤◌, take}
use Rattle.std.specs.Io.KnownBytes.{Appends}
use Rattle.tm_io.proofs.sink.write_all.Given as goal

abbrev pub invariant-loop-at : goal.invariant-loop-at
invariant-loop-at g l = record {
  within : l.at ≤ length l.octets;
  written : Appends (g.O.Sink.written l.initial.out) (g.O.Sink.written l.out) (take l.at l.octets);
  handed : g.O.Sink.handed l.out ≡ g.O.Sink.handed l.initial.out;
  faults : g.O.Sink.faults l.out ≡ g.O.Sink.faults l.initial.out;
  borrow : g.O.Sink.borrow l.out ≡ g.O.Sink.borrow l.initial.out;
}

abbrev pub decreases-loop-at : goal.decreases-loop-at
decreases-loop-at g l = length l.octets - l.at
