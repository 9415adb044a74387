use Rattle.mibtm_tool.proofs.PrintSteps.{printed-part}
use Rattle.mibtm_tool.proofs.print.print.Goals as goal

pub returns-clause-part : goal.returns-clause-part
returns-clause-part g c =
    printed-part c.flush.result c.args.text.now (g.O.Sink.written c.args.out.now) (g.O.Sink.written c.write_all.new.out) (g.O.Sink.written c.flush.new.self)
    c.flush.ensures.bytes c.in_ok-write_all.ensures.all
