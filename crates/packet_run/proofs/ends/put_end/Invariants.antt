use Rattle.packet_run.proofs.Common.{◌≡◌, account_of, IsOf}
use Rattle.packet_run.proofs.ends.put_end.Given as goal

abbrev pub invariant-loop : goal.invariant-loop
invariant-loop g l = record {
  first : IsOf l.crew.jobs l.pipeline.first;
  account : account_of l.pipeline.first ≡ account_of l.initial.pipeline.first;
  second : l.pipeline.second ≡ l.initial.pipeline.second;
  window : l.pipeline.window ≡ l.initial.pipeline.window;
  rooms : l.pipeline.rooms ≡ l.initial.pipeline.rooms;
}
