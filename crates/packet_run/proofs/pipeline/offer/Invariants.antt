use Rattle.packet_run.proofs.Common.{◌≡◌, IsOf, Keeps, put_by, Stays}
use Rattle.packet_run.proofs.pipeline.offer.Given as goal

abbrev pub invariant-loop : goal.invariant-loop
invariant-loop g l = record {
  first : IsOf l.crew.jobs l.pipeline.first;
  second : l.pipeline.second ≡ l.initial.pipeline.second;
  put : put_by l.pipeline ≡ put_by l.initial.pipeline;
  stays : Stays l.initial.pipeline l.pipeline;
  keeps : Keeps g.P.Structures.tables l.initial.pipeline l.pipeline;
  left : l.left ≡ l.fn.task;
}
