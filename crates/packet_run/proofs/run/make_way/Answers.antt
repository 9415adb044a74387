use Rattle.std.proofs.lemmas.Result.{on_ok_weaker}
use Rattle.packet_run.proofs.Common.{on_err, refl}
use Rattle.packet_run.proofs.PipingFacts.{rested, stopped_unflushed}
use Rattle.packet_run.proofs.run.make_way.Goals as goal

pub returns-clause-piping : goal.returns-clause-piping
returns-clause-piping g c = on_ok_weaker c.come_to_rest.result (λ handed from stamped pp.
    rested c.come_to_rest.ensures.bytes c.come_to_rest.ensures.rests (c.in-Ok.ensures.piping from stamped pp)) c.come_to_rest.ensures.handed

pub returns-clause-stopped : goal.returns-clause-stopped
returns-clause-stopped g c = on_err c.come_to_rest.result _ _ (λ rose from stamped pp.
    stopped_unflushed refl (rested c.come_to_rest.ensures.bytes c.come_to_rest.ensures.rests (c.in-Ok.ensures.piping from stamped pp))) c.come_to_rest.ensures.cause.failed
