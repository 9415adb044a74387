use Rattle.decode_pool.proofs.AccountFacts.{accounts}
use Rattle.decode_pool.proofs.work.accounts_of_a_pool.Goals as goal

pub returns : goal.returns
returns g c work = accounts (g.W.Work.made work) g.W.Cell.Numbered.number_of
