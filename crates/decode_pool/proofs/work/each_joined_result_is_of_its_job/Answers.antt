use Rattle.decode_pool.proofs.JoinFacts.{each_joined}
use Rattle.decode_pool.proofs.work.each_joined_result_is_of_its_job.Goals as goal

pub returns : goal.returns
returns g c work = each_joined (g.W.Work.made work) g.W.Cell.Numbered.number_of
