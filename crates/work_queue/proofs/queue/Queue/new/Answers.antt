use Rattle.work_queue.proofs.Keeps.{begins}
use Rattle.work_queue.proofs.queue.Queue.new.Goals as goal

pub ruled-requires-clause-rule : goal.ruled-requires-clause-rule
ruled-requires-clause-rule g c = begins
