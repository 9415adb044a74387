use Rattle.std.proofs.Common.{rules, ◌∙◌}
use Rattle.decode_pool.proofs.Works.{begins, goes_on}
use Rattle.decode_pool.proofs.pool.work_all.Goals as goal

pub loop-init : goal.loop-init
loop-init g c = record {
  taken = c.requires.taken;
  given = c.requires.given;
  works = begins _ _ _ _;
}

pub loop-preserved : goal.loop-preserved
loop-preserved g c = record {
  taken = search rules;
  given = search rules;
  works = goes_on _ _ _ _ _ _ _ _ c.wait_for_job-cell.result c.work_by.new.cell c.loop.invariant.works c.work_by.ensures (λ e. c.if-number-eq0.false (c.number-number.ensures ∙ e)) (search rules) c.put_until.ensures.put;
}
