use Rattle.work_queue.specs.Passes.{IsOf}
use Rattle.part_tests.proofs.queues.produce.Given as goal

abbrev pub invariant-loop-number : goal.invariant-loop-number
invariant-loop-number g l = IsOf l.queue l.pass
