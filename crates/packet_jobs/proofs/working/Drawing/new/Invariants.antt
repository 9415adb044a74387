use Rattle.std.proofs.Common.{◌≡◌, vec_len}
use Rattle.packet_jobs.proofs.working.Drawing.new.Given as goal

abbrev pub invariant-loop-worker : goal.invariant-loop-worker
invariant-loop-worker g l = vec_len l.tools ≡ l._worker
