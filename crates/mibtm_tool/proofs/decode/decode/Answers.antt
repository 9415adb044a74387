use Rattle.std.proofs.Common.{refl, ◌∙◌}
use Rattle.tool_objects.specs.Objects.{shelf, sink}
use Rattle.mibtm_tool.proofs.DecodeSteps.{stood_at}
use Rattle.mibtm_tool.proofs.StatementSteps.{missing_decoded, ran_decoded, refused_decoded}
use Rattle.live_session.proofs.SharedEdition.{compiled-sync}
use denote.Param.Send.{sendable}
use Rattle.mibtm_tool.proofs.decode.decode.Goals as goal

pub returns-in-Ok-true : goal.returns-in-Ok-true
returns-in-Ok-true g c =
    let same = c.in-Ok-true.ensures.cause.ok in
    rw (← c.run_code.ensures) at
    (ran_decoded c.args.folder.now c.args.name.now
    (shelf c.args.tables.now c.folder_edition.new.tables g.T.Source.holds g.T.Source.left g.T.Source.faults g.T.Source.missed)
    (shelf c.args.feed.now c.decode_run.new.source g.F.Source.holds g.F.Source.left g.F.Source.faults g.F.Source.missed)
    (sink c.args.out.now c.decode_run.new.out g.O.Sink.written g.O.Sink.handed g.O.Sink.faults)
    c.in-Ok.edition (record { is_sound = c.in-Ok.ensures.sound; stood = c.in-Ok.ensures.ok; of_tables = c.in-Ok.ensures.told }) c.decode_run.result
    (record {
      turned = c.decode_run.ensures.missed ∙ c.in-Ok-true.ensures.missed.ok;
      octets = g.F.Source.left c.aim.new.self;
      of_feed = stood_at (g.F.Source.holds c.args.feed.now) c.args.name.now c.in-Ok-true.field-0 (g.F.Source.left c.aim.new.self)
          c.in-Ok-true.field-0-test c.in-Ok-true.ensures.held c.in-Ok-true.ensures.left;
      ran = rw (c.deref.ensures ∙ c.into_plans-plans.ensures, same) at c.decode_run.ensures.ran;
    })
    (rw same at c.decode_run.ensures.feed) c.decode_run.ensures.out c.decode_run.ensures.handed (λ wanting. (c.decode_run.ensures.untouched wanting).1))

pub returns-in-Err : goal.returns-in-Err
returns-in-Err g c =
    rw (← c.from.ensures) at
    (refused_decoded c.in-Err.refusal c.args.folder.now c.args.name.now
    (shelf c.args.tables.now c.folder_edition.new.tables g.T.Source.holds g.T.Source.left g.T.Source.faults g.T.Source.missed)
    (shelf c.args.feed.now c.args.feed.now g.F.Source.holds g.F.Source.left g.F.Source.faults g.F.Source.missed)
    (sink c.args.out.now c.args.out.now g.O.Sink.written g.O.Sink.handed g.O.Sink.faults)
    c.in-Err.ensures.cause c.in-Err.ensures.refused refl refl)

pub decode_run-requires-sync-P : goal.decode_run-requires-sync-P
decode_run-requires-sync-P g c κs within = search (compiled-sync, sendable) depth 9

pub returns-in-Ok-false : goal.returns-in-Ok-false
returns-in-Ok-false g c =
    missing_decoded c.args.folder.now c.args.name.now
    (shelf c.args.tables.now c.folder_edition.new.tables g.T.Source.holds g.T.Source.left g.T.Source.faults g.T.Source.missed)
    (shelf c.args.feed.now c.aim.new.self g.F.Source.holds g.F.Source.left g.F.Source.faults g.F.Source.missed)
    (sink c.args.out.now c.args.out.now g.O.Sink.written g.O.Sink.handed g.O.Sink.faults)
    c.in-Ok.edition c.in-Ok-false.field-0 c.in-Ok.ensures.ok c.in-Ok.ensures.told c.in-Ok-false.ensures.cause.ok refl
    c.in-Ok-false.field-0-test c.in-Ok-false.ensures.held
