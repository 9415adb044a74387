use Rattle.std.proofs.Common.{◌∙◌, None, Some, inl, refl, subst, sym}
use Rattle.std.proofs.lemmas.List.{length-map}
use Rattle.desk_panel_tool.proofs.PanelFacts.{each-view, have-of, paneled, refused-unwritten}
use Rattle.desk_panel_tool.proofs.StationFacts.{idle}
use Rattle.desk_panel_tool.specs.Panel.{StaysReplied}
use Rattle.desk_panel_tool.specs.Stations.{AreIdle, stations}
use Rattle.edition_register.specs.Seats.{history_of}
use Rattle.run_model.specs.declared.code.Code.TheVariants as code
use Rattle.tool_objects.specs.Objects.{shelf, sink}
use Rattle.tool_objects.specs.Told.{HasTurned}
use Rattle.tool_words.specs.Panels.{words_by}
use Rattle.desk_panel_tool.proofs.panel.panel.Goals as goal

pub returns-in-Ok-panel_run-clause-panels : goal.returns-in-Ok-panel_run-clause-panels
returns-in-Ok-panel_run-clause-panels g c =
    let at = c.open_inputs.new in let ran = c.panel_run in let run = c.in-Ok-panel_run.ensures in let old = at.desks in let new = ran.new.stations in
    let holds = g.D.Source.holds in let left = g.D.Source.left in let faults = g.D.Source.faults in let missed = g.D.Source.missed in
    let written = g.R.Sink.written in let handed = g.R.Sink.handed in let failed = g.R.Sink.faults in
    paneled holds left faults missed written handed failed
    c.args.feed.now at.feed ran.new.feed g.F.Source.holds g.F.Source.left g.F.Source.faults g.F.Source.missed
    c.in-Ok-panel_run.lived.code (words_by c.args.request.now) c.in-Ok.first
    (shelf c.args.tables.now at.tables g.T.Source.holds g.T.Source.left g.T.Source.faults g.T.Source.missed)
    (sink c.args.out.now ran.new.out g.O.Sink.written g.O.Sink.handed g.O.Sink.faults)
    c.args.desks.now old new
    (c.requires.desks ∙ sym (length-map c.args.request.now.desks.items _)) c.open_inputs.auto.desks (ran.auto.stations ∙ c.open_inputs.auto.desks)
    (Some (history_of c.in-Ok-panel_run.lived.closed)) c.in-Ok.ensures.opened (record {
      feed_turned = ran.ensures.feed_kept.1;
      desks_turned = each-view holds left faults missed written handed failed _ (λ s. HasTurned s.desk) (λ a b kept. kept.1) old new ran.ensures.desks_kept;
      handed = run.handed;
      replied = each-view holds left faults missed written handed failed _ (λ s. StaysReplied s) (λ a b stays. stays) old new run.replied;
      desks = run.lives.stations;
      are_of = have-of holds left faults missed written handed failed run.lives.stations old new run.lives.have;
      lives = run.lives.lives;
    })

pub returns-in-Err-panel_run-clause-panels : goal.returns-in-Err-panel_run-clause-panels
returns-in-Err-panel_run-clause-panels g c =
    let at = c.open_inputs.new in let ran = c.panel_run in let same = c.in-Err-panel_run.ensures.untouched in
    let holds = g.D.Source.holds in let left = g.D.Source.left in let faults = g.D.Source.faults in let missed = g.D.Source.missed in
    let written = g.R.Sink.written in let handed = g.R.Sink.handed in let failed = g.R.Sink.faults in
    rw (c.unopened.ensures.code, c.unopened.ensures.closed)
    (paneled holds left faults missed written handed failed
    c.args.feed.now at.feed ran.new.feed g.F.Source.holds g.F.Source.left g.F.Source.faults g.F.Source.missed
    code.Want (words_by c.args.request.now) c.in-Ok.first
    (shelf c.args.tables.now at.tables g.T.Source.holds g.T.Source.left g.T.Source.faults g.T.Source.missed)
    (sink c.args.out.now ran.new.out g.O.Sink.written g.O.Sink.handed g.O.Sink.faults)
    c.args.desks.now at.desks ran.new.stations
    (c.requires.desks ∙ sym (length-map c.args.request.now.desks.items _)) c.open_inputs.auto.desks (ran.auto.stations ∙ c.open_inputs.auto.desks)
    None c.in-Ok.ensures.opened
    (refl, same.0, subst (λ new. AreIdle (stations at.desks new holds left faults missed written handed failed)) (sym same.1) (idle at.desks holds left faults missed written handed failed), same.2))

pub returns-in-Err-clause-panels : goal.returns-in-Err-clause-panels
returns-in-Err-clause-panels g c =
    let at = c.open_inputs.new in let refused = c.in-Err.ensures.refused in
    rw (c.unopened-in-Err.ensures.code, c.unopened-in-Err.ensures.closed) (
      inl refused,
      refl,
      refused-unwritten c.in-Err.code (words_by c.args.request.now)
          (shelf c.args.tables.now at.tables g.T.Source.holds g.T.Source.left g.T.Source.faults g.T.Source.missed)
          (shelf c.args.feed.now at.feed g.F.Source.holds g.F.Source.left g.F.Source.faults g.F.Source.missed)
          (stations c.args.desks.now at.desks g.D.Source.holds g.D.Source.left g.D.Source.faults g.D.Source.missed g.R.Sink.written g.R.Sink.handed g.R.Sink.faults) refused,
    )
