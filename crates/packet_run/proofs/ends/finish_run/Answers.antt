use Rattle.packet_run.proofs.Common.{ℕ, ◌∙◌, arith, HasRisen, refl, subst}
use Rattle.packet_run.proofs.EndFacts.{drove_all, drove_stopped, pipes_of, write_same}
use Rattle.packet_run.proofs.KeepsFacts.{keeps_on, keeps_refl}
use Rattle.packet_run.proofs.PipingFacts.{piping_keeps}
use Rattle.packet_run.proofs.ends.finish_run.Goals as goal

pub returns-in-OutFault-clause-keeps : goal.returns-in-OutFault-clause-keeps
returns-in-OutFault-clause-keeps g c = keeps_refl

pub returns-in-OutFault-clause-drove : goal.returns-in-OutFault-clause-drove
returns-in-OutFault-clause-drove g c from own origin after before now cause fed =
    drove_stopped fed cause c.requires.below (record { put = refl; read = refl; more = omega arith; below = λ b. b }) (rw (c.in-OutFault.is) at fed.pipes)

pub returns-in_default-commit_to : goal.returns-in_default-commit_to
returns-in_default-commit_to g c =
    let k = c.commit_to.ensures in let e = c.in_default-commit_to.ensures in let isnt = c.in_default.not-OutFault in record {
      passes = k.passes;
      put = k.goes_on.put;
      keeps = k.keeps;
      drove = λ from own origin after before now cause fed.
          drove_stopped fed cause c.requires.below k.goes_on (e.stopped from fed.stamped (pipes_of c.args.until isnt fed.pipes));
      out = λ before cause. subst (λ (n : ℕ). HasRisen n (g.O.Sink.faults c.commit_to.new.out)) (write_same c.args.until isnt cause)
          (e.cause.later, e.cause.failed);
      handed = λ ne. absurd (ne refl);
    }

pub returns : goal.returns
returns g c =
    let k = c.commit_to.ensures in let e = c.in-Ok.ensures in let isnt = c.in_default.not-OutFault in let h = c.hand_on.ensures in record {
      passes = k.passes;
      put = k.goes_on.put;
      keeps = keeps_on k.keeps refl refl refl;
      drove = λ from own origin after before now cause fed.
          let r = k.goes_on.read in let l = e.least in let b = k.goes_on.below c.requires.below in
          drove_all c.end_as-ended.result c.hand_on.result fed cause isnt (omega (arith, r, l, b)) c.end_as-ended.ensures.ends h.ended h.written
          (piping_keeps (keeps_on keeps_refl refl refl refl) refl refl refl (e.piping from fed.stamped (pipes_of c.args.until isnt fed.pipes)));
      out = λ before cause. h.cause before (rw (e.cause.ok ∙ write_same c.args.until isnt cause) at c.end_as-ended.ensures.cause);
      handed = h.handed;
    }
