use Rattle.std.proofs.Common.{subst, sym}
use Rattle.decode_session.specs.Ahead.{BeginsWith, IsDrawn}
use Rattle.decode_session.proofs.AheadFacts.{drawn-jobs, zip-each}
use Rattle.decode_session.proofs.ahead.draw_jobs.Goals as goal

pub returns-clause-jobs : goal.returns-clause-jobs
returns-clause-jobs g c =
    let db = g.P.Structures.tables c.args.plans.now in
    (drawn-jobs db c.args.number c.deal-end.new.jobs c.run_batch.new.cells
    (zip-each (IsDrawn db) c.deal-end.new.jobs c.run_batch.new.cells c.run_batch.ensures.length (λ i d below. c.run_batch.ensures.made i d below c.requires.demands))
    (c.deal-end.ensures.jobs db)).0

pub returns-clause-octets : goal.returns-clause-octets
returns-clause-octets g c =
    let db = g.P.Structures.tables c.args.plans.now in
    let (are, same) = drawn-jobs db c.args.number c.deal-end.new.jobs c.run_batch.new.cells
    (zip-each (IsDrawn db) c.deal-end.new.jobs c.run_batch.new.cells c.run_batch.ensures.length (λ i d below. c.run_batch.ensures.made i d below c.requires.demands))
    (c.deal-end.ensures.jobs db) in
    subst (λ packets. BeginsWith packets c.args.octets.now) (sym same) c.deal-end.ensures.octets
