use Rattle.std.proofs.Common.{◌≡◌, refl}
use Rattle.live_session.specs.Live.{StaysHandedOn}
use Rattle.panel_session.proofs.PanelFacts.{zip-kept, zip-same}
use Rattle.panel_session.proofs.panel.panel_run.Goals as goal

pub returns-in_err-opened-clause-desks_kept : goal.returns-in_err-opened-clause-desks_kept
returns-in_err-opened-clause-desks_kept g c =
    zip-same (λ s t. (g.D.Source.holds t.desk ≡ g.D.Source.holds s.desk) × (g.D.Source.missed t.desk ≡ g.D.Source.missed s.desk)) c.args.stations.now (λ s. (refl, refl))

pub returns-clause-replied : goal.returns-clause-replied
returns-clause-replied g c =
    zip-kept (λ s t. StaysHandedOn (g.P.Sink.faults s.replies) (g.P.Sink.faults t.replies) g.P.Sink.written g.P.Sink.handed s.replies t.replies) _ c.args.stations.now c.run.new.stations
    (λ s t keeps. keeps.handed) c.run.ensures.lives.keep

pub returns-clause-desks_kept : goal.returns-clause-desks_kept
returns-clause-desks_kept g c =
    zip-kept (λ s t. (g.D.Source.holds t.desk ≡ g.D.Source.holds s.desk) × (g.D.Source.missed t.desk ≡ g.D.Source.missed s.desk)) _ c.args.stations.now c.run.new.stations
    (λ s t keeps. (keeps.holds, keeps.missed)) c.run.ensures.lives.keep
