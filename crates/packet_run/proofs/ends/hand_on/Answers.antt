use Rattle.packet_run.proofs.Common.{ℕ, ◌∙◌, HasRisen, subst, sym}
use Rattle.packet_run.proofs.EndFacts.{out_same}
use Rattle.packet_run.proofs.ends.hand_on.Goals as goal

pub returns-in-Ok-clause-cause : goal.returns-in-Ok-clause-cause
returns-in-Ok-clause-cause g c before cause = rw (c.in-Ok.ensures.cause.ok) cause

pub returns-in-Err-clause-cause : goal.returns-in-Err-clause-cause
returns-in-Err-clause-cause g c before was =
    let cause = c.in-Err.ensures.cause in
    subst (λ (n : ℕ). HasRisen n (g.O.Sink.faults c.flush.new.self)) (out_same c.args.ended (sym c.is_out_fault.ensures ∙ c.if-is_out_fault.false) was)
    (cause.later, cause.failed)
