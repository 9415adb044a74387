use Rattle.std.proofs.Common.{◌≡◌, rules, subst, sym}
use Rattle.decode_session.specs.Run.{EndsUnwritten, Ran}
use Rattle.decode_session.proofs.RunSteps.{ran_unflushed}
use Rattle.decode_session.proofs.run.decode_run.Goals as goal

pub returns-clause-ran : goal.returns-clause-ran
returns-clause-ran g c =
    let db = g.P.Structures.tables c.args.plans.now in
    let ended = c.run_in-ended.ensures in
    let same : c.source-1.given.0 ≡ c.run_in-ended.new.feed.source.now = search rules in
    subst
    (λ s. Ran (EndsUnwritten (g.S.Source.faults c.args.source.now) (g.S.Source.faults s)) db (g.S.Source.left c.args.source.now) (g.S.Source.left s)
    (g.O.Sink.written c.args.out.now) (g.O.Sink.written c.flush.new.self))
    (sym same) (rw c.new-feed.ensures at (ran_unflushed c.run_in-ended.result db _ _ _ _ _ _ _ c.flush.ensures.bytes ended.some ended.feed ended.ran))
