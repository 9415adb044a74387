use Rattle.work_queue.specs.Passes.{IsOf}
use Rattle.part_tests.proofs.queues.put_until.Given as goal

abbrev pub invariant-loop : goal.invariant-loop
invariant-loop g l = IsOf l.queue l.pass
