use Rattle.packet_run.proofs.Common.{◌≡◌}
use Rattle.packet_run.proofs.pipeline.look.Given as goal

abbrev pub invariant-loop : goal.invariant-loop
invariant-loop g l = record {
  first : l.pipeline.first ≡ l.initial.pipeline.first;
  second : l.pipeline.second ≡ l.initial.pipeline.second;
  window : l.pipeline.window ≡ l.initial.pipeline.window;
  done : l.pipeline.done ≡ l.initial.pipeline.done;
  read : l.pipeline.read ≡ l.initial.pipeline.read;
}
