use Rattle.std.proofs.Common.{rules}
use Rattle.decode_pool.proofs.Pairs.{ready_push}
use Rattle.run_tests.proofs.pools.passes_of.Goals as goal

pub loop-preserved : goal.loop-preserved
loop-preserved c = record {
  first = search rules;
  second = search rules;
  first_shares = search rules;
  second_shares = search rules;
  ready = rw (c.in_ok-push-2.ensures.items, c.in_ok-push.ensures.items) (ready_push c.args.jobs.now c.args.results.now c.loop.passes.items c.split.result c.split-in-loop.result c.loop.invariant.ready (search rules) (search rules));
}
