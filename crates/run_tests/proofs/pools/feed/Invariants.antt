use Rattle.work_queue.specs.Passes.{IsOf}
use Rattle.run_tests.proofs.pools.feed.Given as goal

abbrev pub invariant-loop-number : goal.invariant-loop-number
invariant-loop-number g l = IsOf l.jobs l.pass

abbrev pub invariant-loop : goal.invariant-loop
invariant-loop g l = IsOf l.jobs l.pass
