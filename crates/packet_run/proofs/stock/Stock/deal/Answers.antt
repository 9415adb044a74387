use Rattle.packet_run.proofs.Common.{◌∙◌, ◌≡◌, Account, account_of, All-push, ap, arith, Pass}
use Rattle.decode_pool.proofs.Pairs.{ready_push}
use Rattle.work_queue.specs.Accounts.{one_share}
use Rattle.packet_run.proofs.stock.Stock.deal.Goals as goal

pub loop-worker-preserved : goal.loop-worker-preserved
loop-worker-preserved g c =
    let i = c.loop-worker.invariant in let u = i.pipeline in let items = c.loop-worker.self.passes.items in
    let a = c.split-taken.result in let b = c.split-given.result in
    let few = c.requires.workers in let below = c.loop-worker-test.true in
    let unused = λ (p : Pass _). account_of p ≡ one_share in
    let m = ap (λ (z : Account _). z.shares) c.split-taken.ensures.old in let n = ap (λ (z : Account _). z.shares) c.split-given.ensures.old in
    let x = i.jobs in let y = i.results in let k = i.count in let l = c.push_reserved.ensures.len in let j = c.push_reserved-in-loop-worker.ensures.len in
    let r = i.room in let s = c.push_reserved.ensures.capacity in let t = c.push_reserved-in-loop-worker.ensures.capacity in
    record {
      passes = (c.split-taken.ensures.passes.0, c.split-given.ensures.passes.0);
      ready = rw (c.push_reserved-in-loop-worker.ensures.items, c.push_reserved.ensures.items)
          (ready_push c.loop-worker.self.crew.jobs c.loop-worker.self.crew.results items a b i.ready c.split-taken.ensures.passes.1
          c.split-given.ensures.passes.1);
      unused = rw (c.push_reserved-in-loop-worker.ensures.items, c.push_reserved.ensures.items)
          (All-push unused _ b (All-push unused items a i.unused c.split-taken.ensures.new) c.split-given.ensures.new);
      count = omega (arith, k, l, j);
      jobs = omega (arith, m, x, few, below);
      results = omega (arith, n, y, few, below);
      pipeline = record {
        put = ap (λ (z : Account _). z.put) c.split-taken.ensures.old ∙ u.put;
        got = ap (λ (z : Account _). z.got) c.split-taken.ensures.old ∙ u.got;
        results = ap (λ (z : Account _). z.got) c.split-given.ensures.old ∙ u.results;
        given = ap (λ (z : Account _). z.put) c.split-given.ensures.old ∙ u.given;
        next = u.next;
        empty = u.empty;
        done = u.done;
        read = u.read;
      };
      room = omega (arith, r, s, t);
      rooms = i.rooms;
    }
