use Rattle.packet_run.proofs.Common.{refl}
use Rattle.packet_run.proofs.KeepsFacts.{keeps_less, less_advanced, less_unchanged}
use Rattle.packet_run.proofs.PipingFacts.{piping_commit, piping_keeps, stopped_commit}
use Rattle.packet_run.proofs.commit.commit_next.Goals as goal

pub returns-in_default-clause-keeps : goal.returns-in_default-clause-keeps
returns-in_default-clause-keeps g c = keeps_less refl refl (less_unchanged c.in_default.ensures.after)

pub returns-in_default-clause-piping : goal.returns-in_default-clause-piping
returns-in_default-clause-piping g c from stamped pp = piping_keeps (keeps_less refl refl (less_unchanged c.in_default.ensures.after)) refl refl refl pp

pub returns-in_default-printed-clause-keeps : goal.returns-in_default-printed-clause-keeps
returns-in_default-printed-clause-keeps g c = keeps_less refl refl (less_advanced c.in-Some.ensures.after)

pub returns-in_default-printed-clause-stopped : goal.returns-in_default-printed-clause-stopped
returns-in_default-printed-clause-stopped g c from stamped pp =
    stopped_commit c.in-Some.task c.in-Some.ensures.taken c.requires.next c.requires.some
    (keeps_less refl refl (less_advanced c.in-Some.ensures.after)) refl refl refl
    c.in_default-printed.ensures.untold c.in_default-printed.ensures.part pp

pub returns-clause-keeps : goal.returns-clause-keeps
returns-clause-keeps g c = keeps_less refl refl (less_advanced c.in-Some.ensures.after)

pub returns-clause-piping : goal.returns-clause-piping
returns-clause-piping g c from stamped pp =
    piping_commit c.in-Some.task c.in-Some.ensures.taken c.requires.next c.requires.some
    (keeps_less refl refl (less_advanced c.in-Some.ensures.after)) refl refl refl
    c.print_result-printed.ensures.in_use c.in-Ok.ensures.printed pp
