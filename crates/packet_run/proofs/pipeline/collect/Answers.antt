use Rattle.packet_run.proofs.Common.{refl}
use Rattle.packet_run.proofs.KeepsFacts.{keeps_result}
use Rattle.packet_run.proofs.pipeline.collect.Goals as goal

pub returns-clause-keeps : goal.returns-clause-keeps
returns-clause-keeps g c = keeps_result c.wait_for_job-task.result refl c.wait_for_job-task.ensures.got c.hold.ensures
