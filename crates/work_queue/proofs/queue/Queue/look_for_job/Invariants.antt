use Rattle.std.proofs.Common.{◌≡◌}
use Rattle.work_queue.specs.Passes.{account_of, IsOf}
use Rattle.work_queue.proofs.queue.Queue.look_for_job.Given as goal

abbrev pub invariant-loop : goal.invariant-loop
invariant-loop g l = record {
  pass : IsOf l.self l.pass;
  account : account_of l.pass ≡ account_of l.fn.pass;
}
