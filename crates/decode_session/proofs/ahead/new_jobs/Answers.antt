use Rattle.std.proofs.Common.{sym, subst, arith}
use Rattle.std.specs.List.{All}
use Rattle.std.proofs.lemmas.List.Elements.{All-push}
use Rattle.decode_session.specs.Ahead.{IsUnused}
use Rattle.decode_session.proofs.ahead.new_jobs.Goals as goal

pub loop-job-preserved : goal.loop-job-preserved
loop-job-preserved c = record {
  count = let more = c.in_ok-push.ensures.len in let count = c.loop-job.invariant.count in omega arith;
  unused = subst (All IsUnused) (sym c.in_ok-push.ensures.items) (All-push IsUnused c.loop-job.jobs.items c.in_ok-new.field-0 c.loop-job.invariant.unused c.in_ok-new.ensures);
}
