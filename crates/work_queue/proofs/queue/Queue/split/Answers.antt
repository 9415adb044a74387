use Rattle.work_queue.proofs.Keeps.{splits}
use Rattle.work_queue.proofs.queue.Queue.split.Goals as goal

pub another-requires-clause-rule : goal.another-requires-clause-rule
another-requires-clause-rule g c = splits _ _ c.requires.shares
