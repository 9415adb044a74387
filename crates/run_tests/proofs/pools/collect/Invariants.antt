use Rattle.work_queue.specs.Passes.{IsOf}
use Rattle.run_tests.proofs.pools.collect.Given as goal

abbrev pub invariant-loop : goal.invariant-loop
invariant-loop g l = IsOf l.results l.pass
