use Rattle.packet_run.proofs.Common.{◌<◌, ◌≡◌, ◌⊎◌, account_of, IsOf, joined_jobs, joined_results, length, Ready, reverse, TellsBalance}
use Rattle.packet_run.proofs.beside.join_all.Given as goal

abbrev pub invariant-loop-taken : goal.invariant-loop-taken
invariant-loop-taken g l = record {
  own : IsOf l.crew.jobs l.first × IsOf l.crew.results l.second;
  ready : Ready l.crew.jobs l.crew.results (reverse l.passes.items);
  jobs : joined_jobs (account_of l.first) (reverse l.passes.items) ≡ joined_jobs (account_of l.initial.first) (reverse l.initial.passes.items);
  results : joined_results (account_of l.second) (reverse l.passes.items) ≡ joined_results (account_of l.initial.second) (reverse l.initial.passes.items);
  told : (0 < length l.passes.items) ⊎ (TellsBalance (account_of l.first) × TellsBalance (account_of l.second));
}

abbrev pub decreases-loop-taken : goal.decreases-loop-taken
decreases-loop-taken g l = length l.passes.items
