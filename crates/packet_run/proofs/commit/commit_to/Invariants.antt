use Rattle.packet_run.proofs.Common.{◌+◌, ◌≡◌, ◌≤◌, From, GoesOn, IsOf, Keeps, List, next_of, Piping, StampedPacket, StaysInUse}
use Rattle.packet_run.proofs.commit.commit_to.Given as goal

abbrev pub invariant-loop : goal.invariant-loop
invariant-loop g l = record {
  passes : IsOf l.crew.jobs l.pipeline.first × IsOf l.crew.results l.pipeline.second;
  next : next_of l.pipeline.window ≡ l.pipeline.done + 1;
  least : l.least ≤ l.pipeline.read;
  goes_on : GoesOn l.initial.pipeline l.pipeline;
  keeps : Keeps g.P.Structures.tables l.initial.pipeline l.pipeline;
  in_use : StaysInUse l.initial.in_use l.in_use;
  piping : (from : From g.row.W.Denot) (stamped : List StampedPacket)
      → Piping g.P.Structures.tables g.W.Watch.stands from stamped l.initial.pipeline l.initial.in_use l.initial.watch (g.O.Sink.written l.initial.out)
      → Piping g.P.Structures.tables g.W.Watch.stands from stamped l.pipeline l.in_use l.watch (g.O.Sink.written l.out);
  faults : g.O.Sink.faults l.out ≡ g.O.Sink.faults l.initial.out;
}
