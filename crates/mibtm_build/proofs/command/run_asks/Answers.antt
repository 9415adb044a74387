use Rattle.std.proofs.Common.{subst}
use Rattle.mib_model.specs.declared.database.Database.{Database}
use Rattle.mibtm_build.specs.Runs.{Ran}
use Rattle.mibtm_build.proofs.StopFacts.{ran-on, stopped}
use Rattle.tool_objects.specs.Objects.{shelf, sink}
use Rattle.mibtm_build.proofs.command.run_asks.Goals as goal

pub returns-clause-ran : goal.returns-clause-ran
returns-clause-ran g c =
    ran-on c.run_from-code.result c.hand_on.result (g.O.Sink.faults c.run_from-code.new.out) (g.O.Sink.faults c.hand_on.new.out) c.args.book.now
    (g.D.Source.left c.args.asks.now) (g.D.Source.left c.run_from-code.new.asks) (g.O.Sink.written c.args.out.now) (g.O.Sink.written c.run_from-code.new.out)
    (g.O.Sink.written c.hand_on.new.out) (g.O.Sink.handed c.hand_on.new.out) c.hand_on.ensures.written c.hand_on.ensures.ends
    (subst (λ (db : Database). Ran c.run_from-code.result db (g.D.Source.left c.args.asks.now) (g.D.Source.left c.run_from-code.new.asks) (g.O.Sink.written c.args.out.now) (g.O.Sink.written c.run_from-code.new.out))
    c.in_ok-builder.ensures c.run_from-code.ensures.ran)

pub returns-clause-stopped : goal.returns-clause-stopped
returns-clause-stopped g c =
    stopped (shelf c.args.asks.now c.run_from-code.new.asks g.D.Source.holds g.D.Source.left g.D.Source.faults g.D.Source.missed)
    (sink c.args.out.now c.hand_on.new.out g.O.Sink.written g.O.Sink.handed g.O.Sink.faults) (g.O.Sink.faults c.run_from-code.new.out) c.run_from-code.result c.hand_on.result
    c.run_from-code.ensures.ran.is_end c.run_from-code.ensures.asks c.run_from-code.ensures.cause c.hand_on.ensures.ends
