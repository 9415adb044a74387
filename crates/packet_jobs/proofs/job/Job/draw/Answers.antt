use Rattle.packet_jobs.proofs.Common.{ap, Database, subst}
use Rattle.packet_jobs.specs.Drawn.{IsDrawn}
use Rattle.packet_jobs.proofs.job.Job.draw.Goals as goal

pub invariant_of-self : goal.invariant_of-self
invariant_of-self g c =
    let drawn = c.draw_in-is_drawn in
    record { drawn = λ ok. subst (λ (db : Database). IsDrawn db drawn.new.cell) (ap g.P.Structures.tables c.deref.ensures) (drawn.ensures.drawn ok) }
