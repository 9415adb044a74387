use Rattle.packet_run.proofs.Common.{◌*◌, ◌+◌, ◌≡◌, ◌≤◌, account_of, All, HasPasses, IsUnused, Ready, vec_capacity, vec_len}
use Rattle.work_queue.specs.Accounts.{ALL_SHARES, one_share}
use Rattle.packet_run.proofs.stock.Stock.deal.Given as goal

abbrev pub invariant-loop-worker : goal.invariant-loop-worker
invariant-loop-worker g l = record {
  passes : HasPasses l.self.crew l.self.pipeline;
  ready : Ready l.self.crew.jobs l.self.crew.results l.self.passes.items;
  unused : All (λ pass. account_of pass ≡ one_share) l.self.passes.items;
  count : vec_len l.self.passes ≡ 2 * l._worker;
  jobs : (account_of l.self.pipeline.first).shares + l._worker ≡ ALL_SHARES;
  results : (account_of l.self.pipeline.second).shares + l._worker ≡ ALL_SHARES;
  pipeline : IsUnused l.self.pipeline;
  room : 32 ≤ vec_capacity l.self.passes;
  rooms : vec_len l.self.pipeline.rooms ≡ vec_len l.initial.self.pipeline.rooms;
}
