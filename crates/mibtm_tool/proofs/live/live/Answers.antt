use Rattle.std.proofs.Common.{option_map, refl}
use Rattle.edition_register.specs.Seats.{history_of}
use Rattle.mibtm_tool.proofs.LiveSteps.{lived, missing_lived}
use Rattle.tool_objects.specs.Objects.{shelf, sink}
use Rattle.mibtm_tool.proofs.live.live.Goals as goal

pub returns-in-Ok-true-clause-lives : goal.returns-in-Ok-true-clause-lives
returns-in-Ok-true-clause-lives g c =
    lived c.args.asked.now.folder.now c.args.asked.now.feed.now c.args.asked.now.desk.now
    (shelf c.args.tables.now c.folder_edition.new.tables g.T.Source.holds g.T.Source.left g.T.Source.faults g.T.Source.missed)
    c.args.feed.now c.aim.new.self c.live_beside.new.feed g.F.Source.holds g.F.Source.left g.F.Source.faults g.F.Source.missed
    (shelf c.args.desk.now c.live_beside.new.desk g.D.Source.holds g.D.Source.left g.D.Source.faults g.D.Source.missed)
    (sink c.args.out.now c.live_beside.new.out g.O.Sink.written g.O.Sink.handed g.O.Sink.faults)
    (sink c.args.replies.now c.live_beside.new.replies g.P.Sink.written g.P.Sink.handed g.P.Sink.faults)
    c.in-Ok.edition c.in-Ok-true.field-0 c.in-Ok.ensures.ok c.in-Ok.ensures.sound c.in-Ok.ensures.told c.in-Ok-true.field-0-test
    c.in-Ok-true.ensures.held c.in-Ok-true.ensures.left c.in-Ok-true.ensures.cause.ok c.in-Ok-true.ensures.missed.ok
    c.live_beside.result.code (option_map history_of c.live_beside.result.closed) c.live_beside.ensures.lives

pub returns-in-Ok-false-clause-lives : goal.returns-in-Ok-false-clause-lives
returns-in-Ok-false-clause-lives g c =
    rw (c.unopened-in-Ok-false.ensures.code, c.unopened-in-Ok-false.ensures.closed)
    (missing_lived c.args.asked.now.folder.now c.args.asked.now.feed.now c.args.asked.now.desk.now
    (shelf c.args.tables.now c.folder_edition.new.tables g.T.Source.holds g.T.Source.left g.T.Source.faults g.T.Source.missed)
    (shelf c.args.feed.now c.aim.new.self g.F.Source.holds g.F.Source.left g.F.Source.faults g.F.Source.missed)
    (shelf c.args.desk.now c.args.desk.now g.D.Source.holds g.D.Source.left g.D.Source.faults g.D.Source.missed)
    (sink c.args.out.now c.args.out.now g.O.Sink.written g.O.Sink.handed g.O.Sink.faults)
    (sink c.args.replies.now c.args.replies.now g.P.Sink.written g.P.Sink.handed g.P.Sink.faults)
    c.in-Ok.edition c.in-Ok-false.field-0 c.in-Ok.ensures.ok c.in-Ok.ensures.told c.in-Ok-false.ensures.cause.ok refl refl refl
    c.in-Ok-false.field-0-test c.in-Ok-false.ensures.held)
