use Rattle.work_queue.specs.Passes.{account_of, IsOf}
use Rattle.decode_pool.specs.Served.{Works}
use Rattle.decode_pool.proofs.pool.work_all.Given as goal

abbrev pub invariant-loop : goal.invariant-loop
invariant-loop g l = record {
  taken : IsOf l.jobs l.taken;
  given : IsOf l.results l.given;
  works : Works (g.W.Work.made l.work) g.W.Cell.Numbered.number_of (account_of l.fn.taken) (account_of l.fn.given) (account_of l.taken) (account_of l.given);
}
