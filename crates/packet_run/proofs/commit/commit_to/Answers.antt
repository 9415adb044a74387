use Rattle.packet_run.proofs.Common.{◌+◌, ◌∙◌, arith, refl, sym}
use Rattle.packet_run.proofs.KeepsFacts.{keeps_refl, keeps_trans}
use Rattle.packet_run.proofs.PipingFacts.{goes_on_trans, piping_keeps, stays_trans}
use Rattle.packet_run.proofs.commit.commit_to.Goals as goal

pub loop-init : goal.loop-init
loop-init g c = record {
  passes = c.requires.passes;
  next = c.requires.next;
  least = c.requires.least;
  goes_on = record { put = refl; read = refl; more = omega arith; below = λ b. b };
  keeps = keeps_refl;
  in_use = record { edition = refl; handle = refl };
  piping = λ from stamped pp. pp;
  faults = refl;
}

pub returns-in-Err-clause-keeps : goal.returns-in-Err-clause-keeps
returns-in-Err-clause-keeps g c = keeps_trans c.loop.invariant.keeps c.commit_next.ensures.keeps

pub loop-preserved-in-Ok-true : goal.loop-preserved-in-Ok-true
loop-preserved-in-Ok-true g c =
    let i = c.loop.invariant in let n = c.commit_next.ensures in let ok = c.in-Ok-true.ensures in record {
      passes = (rw (n.first) i.passes.0, rw (n.second) i.passes.1);
      next = ok.next;
      least = let r = n.goes_on.read in let l = i.least in omega (arith, r, l);
      goes_on = goes_on_trans i.goes_on n.goes_on;
      keeps = keeps_trans i.keeps n.keeps;
      in_use = stays_trans i.in_use n.in_use;
      piping = λ from stamped pp. ok.piping from stamped (i.piping from stamped pp);
      faults = ok.cause.ok ∙ i.faults;
    }

pub loop-preserved : goal.loop-preserved
loop-preserved g c =
    let i = c.loop.invariant in let n = c.commit_next.ensures in let ok = c.in-Ok-false.ensures in let k = c.collect.ensures in
    let d = k.stays.done in let r = k.stays.read in let m = n.goes_on.read in record {
      passes = (k.first, k.second);
      next = k.stays.next ∙ ok.next ∙ (λ j. sym d j + 1);
      least = let l = i.least in omega (arith, m, l, r);
      goes_on = goes_on_trans i.goes_on
          (goes_on_trans n.goes_on (record { put = k.put; read = r; more = omega (arith, d); below = λ b. omega (arith, b, d, r) }));
      keeps = keeps_trans i.keeps (keeps_trans n.keeps k.keeps);
      in_use = stays_trans i.in_use n.in_use;
      piping = λ from stamped pp. piping_keeps k.keeps k.put d r (ok.piping from stamped (i.piping from stamped pp));
      faults = ok.cause.ok ∙ i.faults;
    }
