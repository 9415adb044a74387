use Rattle.decode_pool.proofs.JoinFacts.{serve_ready}
use Rattle.decode_pool.proofs.Pairs.{chunk_ready, all_serve}
use Rattle.decode_pool.proofs.pool.Pool.serve.Goals as goal

pub serve_pairs-requires-clause-ready : goal.serve_pairs-requires-clause-ready
serve_pairs-requires-clause-ready g c κs within = chunk_ready c.args.jobs.now c.args.results.now c.args.passes.now c.requires.ready

pub returns : goal.returns
returns g c =
    let serves = all_serve c.args.jobs.now c.args.results.now (g.W.Work.made c.args.work.now) g.W.Cell.Numbered.number_of _ _ c.requires.ready c.serve_pairs.ensures.length c.serve_pairs.ensures.serves in
    record {
      length = c.serve_pairs.ensures.length;
      ready = serve_ready (g.W.Work.made c.args.work.now) g.W.Cell.Numbered.number_of c.args.jobs.now c.args.results.now _ _ serves;
      serves = serves;
    }
