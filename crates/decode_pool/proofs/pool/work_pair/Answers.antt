use Rattle.std.proofs.Common.{rules}
use Rattle.decode_pool.proofs.Works.{pair_serves}
use Rattle.decode_pool.proofs.pool.work_pair.Goals as goal

pub returns : goal.returns
returns g c =
    let parts = c.split_at_mut-taken.ensures in
    record { serves = pair_serves (g.W.Work.made c.args.work.now) g.W.Cell.Numbered.number_of c.args.jobs.now c.args.results.now _ _ _ c.index-taken-0.result c.index-given-0.result _ _ parts.value (search rules) (search rules) c.index-taken-0.is c.index-given-0.is c.work_all.ensures.passes.0 c.work_all.ensures.passes.1 c.work_all.ensures.serves }
