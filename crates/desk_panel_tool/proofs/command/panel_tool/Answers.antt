use Rattle.desk_panel_tool.proofs.PanelFacts.{wanting}
use Rattle.desk_panel_tool.proofs.command.panel_tool.Goals as goal

pub returns-in-Err-Memory-clause-panels : goal.returns-in-Err-Memory-clause-panels
returns-in-Err-Memory-clause-panels g c =
    rw (c.unopened-in-Err-Memory.ensures.code, c.unopened-in-Err-Memory.ensures.closed)
    (wanting _ c.args.tables.now c.args.feed.now c.args.desks.now c.args.out.now g.T.Source.holds g.T.Source.left g.T.Source.faults g.T.Source.missed
    g.F.Source.holds g.F.Source.left g.F.Source.faults g.F.Source.missed g.D.Source.holds g.D.Source.left g.D.Source.faults g.D.Source.missed
    g.R.Sink.written g.R.Sink.handed g.R.Sink.faults g.O.Sink.written g.O.Sink.handed g.O.Sink.faults)
