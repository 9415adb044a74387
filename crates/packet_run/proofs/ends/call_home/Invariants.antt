use Rattle.packet_run.proofs.Common.{◌≡◌, IsOf, Keeps, put_by}
use Rattle.packet_run.proofs.ends.call_home.Given as goal

abbrev pub invariant-loop : goal.invariant-loop
invariant-loop g l = record {
  passes : IsOf l.crew.jobs l.pipeline.first × IsOf l.crew.results l.pipeline.second;
  put : put_by l.pipeline ≡ put_by l.initial.pipeline;
  keeps : Keeps g.P.Structures.tables l.initial.pipeline l.pipeline;
}
