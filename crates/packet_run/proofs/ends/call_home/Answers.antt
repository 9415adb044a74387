use Rattle.packet_run.proofs.Common.{◌∙◌, refl}
use Rattle.packet_run.proofs.KeepsFacts.{keeps_less, keeps_refl, keeps_trans, less_advanced, less_unchanged}
use Rattle.packet_run.proofs.ends.call_home.Goals as goal

pub loop-init : goal.loop-init
loop-init g c = record { passes = c.requires.passes; put = refl; keeps = keeps_refl }

pub loop-preserved-in-Some-take_next : goal.loop-preserved-in-Some-take_next
loop-preserved-in-Some-take_next g c =
    let i = c.loop.invariant in record {
      passes = i.passes;
      put = i.put;
      keeps = keeps_trans i.keeps (keeps_less refl refl (less_advanced c.in-Some-take_next.ensures.after));
    }

pub loop-preserved : goal.loop-preserved
loop-preserved g c =
    let i = c.loop.invariant in let k = c.collect.ensures in record {
      passes = (k.first, k.second);
      put = k.put ∙ i.put;
      keeps = keeps_trans i.keeps (keeps_trans (keeps_less refl refl (less_unchanged c.in-None-take_next.ensures.after)) k.keeps);
    }
