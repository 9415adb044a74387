use Rattle.packet_run.proofs.Common.{◌∙◌, ap, arc_value, on_err, on_ok, packet_in, refl, stamped_as, sym}
use Rattle.decode_session.specs.declared.cell.PacketCell.{PacketCell}
use Rattle.packet_run.proofs.FeedFacts.{comes_still, of_use}
use Rattle.packet_run.proofs.KeepsFacts.{keeps_on, keeps_refl, keeps_trans}
use Rattle.packet_run.proofs.PipingFacts.{piping_offer, stopped_more}
use Rattle.packet_run.proofs.run.take_packet.Goals as goal

pub returns-in-Some-clause-piping : goal.returns-in-Some-clause-piping
returns-in-Some-clause-piping g c from stamped shown comes number pp =
    let tables = g.P.Structures.tables in let h = c.hand_over.ensures in let here = of_use {s = stamped_as c.args.read shown} c.in-Some.ensures.0 comes in
    record {
      piping = piping_offer (stamped_as c.args.read shown) h.put.0 h.keeps h.put.1 h.done h.read c.requires.counts.0 number (record {
        number = ap (λ (c : PacketCell). c.number) h.put.2;
        packet = ap packet_in h.put.2;
        edition = ap (λ h. tables (arc_value h)) h.put.3 ∙ ap tables c.in-Some.ensures.1 ∙ sym here.shown;
      }) here pp;
      edition = sym here.edition;
      shown = sym here.shown;
    }

pub returns-in_default-commit_to-clause-keeps : goal.returns-in_default-commit_to-clause-keeps
returns-in_default-commit_to-clause-keeps g c = keeps_on c.commit_to.ensures.keeps refl refl refl

pub returns-in_default-commit_to-clause-stopped : goal.returns-in_default-commit_to-clause-stopped
returns-in_default-commit_to-clause-stopped g c from stamped shown comes number pp =
    stopped_more (stamped_as c.args.read shown) (keeps_on keeps_refl refl refl refl) refl refl refl number
    (c.in_default-commit_to.ensures.stopped from stamped pp)

pub returns-clause-keeps : goal.returns-clause-keeps
returns-clause-keeps g c = keeps_trans c.commit_to.ensures.keeps c.do_alone.ensures.keeps

pub returns-clause-piping : goal.returns-clause-piping
returns-clause-piping g c = on_ok c.do_alone.result _ _ _ (λ goes same from stamped shown comes number pp.
    goes from stamped shown (comes_still c.commit_to.ensures.in_use comes) number (c.in-Ok.ensures.piping from stamped pp))
    c.do_alone.ensures.piping c.do_alone.ensures.piping

pub returns-clause-stopped : goal.returns-clause-stopped
returns-clause-stopped g c = on_err c.do_alone.result _ _ (λ stops from stamped shown comes number pp.
    stops from stamped shown (comes_still c.commit_to.ensures.in_use comes) number (c.in-Ok.ensures.piping from stamped pp)) c.do_alone.ensures.stopped
