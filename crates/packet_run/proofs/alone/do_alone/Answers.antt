use Rattle.packet_run.proofs.Common.{ℕ, ◌+◌, account_of, ap, Pass, refl, stamped_as}
use Rattle.packet_run.proofs.KeepsFacts.{keeps_less, less_advanced, less_same}
use Rattle.packet_run.proofs.PipingFacts.{piping_alone, stopped_alone}
use Rattle.packet_run.proofs.alone.do_alone.Goals as goal

pub returns-in_default-clause-keeps : goal.returns-in_default-clause-keeps
returns-in_default-clause-keeps g c = keeps_less refl refl (less_same c.args.pipeline.now.window)

pub returns-in_default-clause-stopped : goal.returns-in_default-clause-stopped
returns-in_default-clause-stopped g c from stamped shown comes number pp =
    stopped_alone (stamped_as c.args.read shown) (keeps_less refl refl (less_same c.args.pipeline.now.window)) refl c.requires.counts.0 refl refl number
    c.in_default.ensures.untold (c.in_default.ensures.part shown comes) pp

pub returns-clause-keeps : goal.returns-clause-keeps
returns-clause-keeps g c = keeps_less c.pass_by.ensures.first c.pass_by.ensures.second (less_advanced c.pass_by.ensures.advances)

pub returns-clause-piping : goal.returns-clause-piping
returns-clause-piping g c from stamped shown comes number pp =
    let by = c.pass_by.ensures in
    piping_alone (stamped_as c.args.read shown) (keeps_less by.first by.second (less_advanced by.advances)) (ap (λ (p : Pass _). (account_of p).put) by.first)
    c.requires.counts.0 (ap (λ (n : ℕ). n + 1) by.counts) by.read number (c.in-Ok.ensures.printed shown comes) pp
