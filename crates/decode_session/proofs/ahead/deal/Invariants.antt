use Rattle.std.proofs.Common.{◌≡◌, ◌≤◌, ◌+◌, ◌*◌, ◌++◌, length, take}
use Rattle.std.specs.List.{concat}
use Rattle.decode_session.specs.Ahead.{AreJobs, packets_of}
use Rattle.decode_session.proofs.ahead.deal.Given as goal
use Rattle.mib_model.specs.declared.database.Database.{Database}

abbrev pub invariant-loop-job : goal.invariant-loop-job
invariant-loop-job l = record {
  jobs : (db : Database) → AreJobs db l.number (take l.job-index l.jobs);
  octets : l.octets ≡ concat (packets_of (take l.job-index l.jobs)) ++ l.left;
  next : l.next ≡ l.number + length (packets_of (take l.job-index l.jobs));
  low : l.next ≤ l.number + 64 * l.job-index;
  length : length l.jobs ≡ length l.initial.jobs;
}
