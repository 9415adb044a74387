use Rattle.packet_run.proofs.Common.{◌∙◌, refl}
use Rattle.packet_jobs.proofs.TaskFacts.{worked_same}
use Rattle.packet_run.proofs.KeepsFacts.{keeps_other, keeps_own, keeps_put, less_same}
use Rattle.packet_run.proofs.pipeline.help.Goals as goal

pub returns-in-None-clause-keeps : goal.returns-in-None-clause-keeps
returns-in-None-clause-keeps g c = keeps_put _ c.in-None.ensures.got refl (less_same c.args.pipeline.now.window)

pub returns-then-number-ne0-clause-keeps : goal.returns-then-number-ne0-clause-keeps
returns-then-number-ne0-clause-keeps g c =
    keeps_own c.in-Some.task c.in-Some.task c.in-Some.ensures.got refl (worked_same g.P.Structures.tables c.in-Some.task)
    (λ zero. c.if-number-ne0.true (c.number.ensures ∙ zero)) c.hold.ensures

pub returns-else-number-ne0-clause-keeps : goal.returns-else-number-ne0-clause-keeps
returns-else-number-ne0-clause-keeps g c = keeps_other c.in-Some.task c.in-Some.ensures.got refl (less_same c.args.pipeline.now.window)
