use Rattle.std.proofs.Common.{rules}
use Rattle.work_queue.proofs.Keeps.{gets, tells}
use Rattle.work_queue.proofs.queue.Queue.get.Goals as goal

pub pop_as-requires-clause-rule : goal.pop_as-requires-clause-rule
pop_as-requires-clause-rule g c = (gets _ _ (search rules), tells _ _)
