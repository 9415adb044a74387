use Rattle.std.proofs.Common.{◌≡◌, vec_len}
use Rattle.std.specs.List.{All}
use Rattle.decode_session.specs.Ahead.{IsUnused}
use Rattle.decode_session.proofs.ahead.new_jobs.Given as goal

abbrev pub invariant-loop-job : goal.invariant-loop-job
invariant-loop-job l = record {
  count : vec_len l.jobs ≡ l._job;
  unused : All IsUnused l.jobs.items;
}
