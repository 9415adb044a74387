use Rattle.decode_pool.proofs.FlowFacts.{each_is_of_its_job}
use Rattle.decode_pool.proofs.work.each_result_is_of_its_job.Goals as goal

pub returns : goal.returns
returns g c work = each_is_of_its_job (g.W.Work.made work) g.W.Cell.Numbered.number_of
