use Rattle.std.proofs.Common.{rules}
use Rattle.work_queue.proofs.Keeps.{puts, tells}
use Rattle.work_queue.proofs.queue.Queue.put.Goals as goal

pub push_as-put-requires-clause-rule : goal.push_as-put-requires-clause-rule
push_as-put-requires-clause-rule g c = (puts _ _ _ _ (search rules), tells _ _)
