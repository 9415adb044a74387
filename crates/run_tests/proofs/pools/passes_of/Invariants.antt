use Rattle.std.proofs.Common.{◌≤◌, ◌+◌}
use Rattle.work_queue.specs.Passes.{IsOf, account_of}
use Rattle.decode_pool.specs.Served.{Ready}
use Rattle.run_tests.proofs.pools.passes_of.Given as goal

abbrev pub invariant-loop : goal.invariant-loop
invariant-loop l = record {
  first : IsOf l.jobs l.first;
  second : IsOf l.results l.second;
  first_shares : 200 ≤ (account_of l.first).shares + l.counter;
  second_shares : 200 ≤ (account_of l.second).shares + l.counter;
  ready : Ready l.jobs l.results l.passes.items;
}
