use Rattle.packet_run.proofs.Common.{IsOf, PutsEnds}
use Rattle.packet_run.proofs.ends.end_all.Given as goal

abbrev pub invariant-loop : goal.invariant-loop
invariant-loop g l = record {
  first : IsOf l.crew.jobs l.pipeline.first;
  puts : PutsEnds l.initial.pipeline l.pipeline;
}
