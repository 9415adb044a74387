use Rattle.packet_run.proofs.Common.{◌∙◌, Account, ap, refl}
use Rattle.packet_run.proofs.KeepsFacts.{keeps_put, keeps_refl, keeps_trans, less_same}
use Rattle.packet_run.proofs.pipeline.offer.Goals as goal

pub loop-init : goal.loop-init
loop-init g c = record {
  first = c.requires.first;
  second = refl;
  put = refl;
  stays = record { done = refl; read = refl; next = refl };
  keeps = keeps_refl;
  left = refl;
}

pub returns-in-Ok-clause-keeps : goal.returns-in-Ok-clause-keeps
returns-in-Ok-clause-keeps g c = keeps_trans c.loop.invariant.keeps (keeps_put _ c.in-Ok.ensures.put refl (less_same c.loop.pipeline.window))

pub loop-preserved : goal.loop-preserved
loop-preserved g c =
    let h = c.help.ensures in let i = c.loop.invariant in let a = c.in-Err.ensures.put in
    record {
      first = h.first;
      second = h.second ∙ i.second;
      put = h.put ∙ ap (λ (x : Account _). x.put) a.1 ∙ i.put;
      stays = record { done = h.stays.done ∙ i.stays.done; read = h.stays.read ∙ i.stays.read; next = h.stays.next ∙ i.stays.next };
      keeps = keeps_trans i.keeps (keeps_trans (keeps_put _ a.1 refl (less_same c.loop.pipeline.window)) h.keeps);
      left = a.0 ∙ i.left;
    }
