use Rattle.std.proofs.Common.{◌≡◌}
use Rattle.work_queue.specs.Passes.{account_of, IsOf}
use Rattle.decode_pool.proofs.pool.put_until.Given as goal

abbrev pub invariant-loop : goal.invariant-loop
invariant-loop g l = record {
  pass : IsOf l.queue l.pass;
  account : account_of l.pass ≡ account_of l.fn.pass;
  job : l.left ≡ l.fn.job;
}
