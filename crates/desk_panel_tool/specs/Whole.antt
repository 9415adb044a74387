-- What a panel comes to where nothing hinders it, and where an input is refused. [This profile.]
use Rattle.std.specs.Prelude.{◌≡◌, ◌⊎◌, ◌<◌, ◌==◌, ℕ, List, [], ◌∷◌, false, length, map, Option, None, Some, Ok, ⊤}
use Rattle.std.specs.List.{AllByRecursion, AllZip, list_any}
use Rattle.decode_session.specs.Run.{most_packets}
use Rattle.desk_panel_tool.specs.Panel.{AreOf}
use Rattle.desk_panel_tool.specs.Stations.{StationView}
use Rattle.live_desk.specs.DeskEnds.{is_desk_fault, is_reply_fault}
use Rattle.live_session.specs.Live.{from, written_to}
use Rattle.run_model.specs.declared.code.Code.{Code}
use Rattle.run_model.specs.declared.code.Code.TheVariants as code
use Rattle.mib_model.specs.declared.database.Database.{Database}
use Rattle.run_model.specs.Endings.{code_of_rest}
use Rattle.run_model.specs.RegisterHistories.{RegisterHistory}
use Rattle.panel_session.specs.Panel.{LivesPanel, Station}
use Rattle.session.specs.Sources.{Files}
use Rattle.tool_objects.specs.Calm.{HoldsCalm, IsCalm, IsCalmSink}
use Rattle.tool_objects.specs.Objects.{HasBroken, HasFailed, ShelfView, SinkView}
use Rattle.tool_objects.specs.Sources.{sound_in}
use Rattle.tool_words.specs.Panels.{PanelWords}

-- the desks of the stations hold these files, and neither they nor the replies failed
abbrev pub AreCalm : {D R : Type 0} → List (StationView D R) → List Files → Type 0
AreCalm stations files = AllZip (λ s held. HoldsCalm s.desk held × IsCalmSink s.replies) stations files

-- by these files the desks of these names have these scripts
abbrev pub AreHeld : List Files → List (List ℕ) → List (List ℕ) → Type 0
AreHeld [] [] [] = ⊤
AreHeld (files ∷ others) (name ∷ names) (script ∷ scripts) = (files name ≡ Some script) × AreHeld others names scripts
AreHeld others names scripts = ⊥

-- by these files the tables are this database, and feed and desks have these octets
pub record AreThere (files feeds : Files) (desk_files : List Files) (w : PanelWords) (db : Database) (octets : List ℕ) (scripts : List (List ℕ)) : Type 0 where
  pub tables : sound_in files w.folder ≡ Ok db
  pub feed : feeds w.feed ≡ Some octets
  pub desks : AreHeld desk_files w.desks scripts

-- a run over this feed and these scripts of which nothing failed; its code is that of what the feed has left
pub record RunsWhole {F D R O : Type 0} (c : Code) (history : RegisterHistory) (db : Database) (octets : List ℕ) (scripts : List (List ℕ))
    (feed : ShelfView F) (stations : List (StationView D R)) (out : SinkView O) : Type 0 where
  pub desks : List Station
  pub are_of : AreOf desks (map (λ script. Some script) scripts) stations
  pub lives : LivesPanel c db history (from feed (Some octets)) desks (written_to out)
  pub prints : lives.prints.out_failed ≡ false
  pub reads : lives.prints.feed_failed ≡ false
  pub asks : list_any (λ desk. is_desk_fault desk.end) desks ≡ false
  pub answers : list_any (λ desk. is_reply_fault desk.end) desks ≡ false
  pub is_code : c ≡ code_of_rest (length lives.prints.packets == most_packets) (length lives.prints.rest)

-- it is that run, or memory ran out before it opened
abbrev pub CompletesPanel : {F D R O : Type 0} → Code → Option RegisterHistory → Database → List ℕ → List (List ℕ)
    → ShelfView F → List (StationView D R) → SinkView O → Type 0
CompletesPanel c None db octets scripts feed stations out = c ≡ code.Want
CompletesPanel c (Some history) db octets scripts feed stations out = RunsWhole c history db octets scripts feed stations out

-- it opened nothing: it is this code, or memory ran out before
abbrev pub RefusesPanel : Code → Code → Option RegisterHistory → Type 0
RefusesPanel refusal c closed = (closed ≡ None) × ((c ≡ refusal) ⊎ (c ≡ code.Want))

-- by these files a desk of these names isn't there, and those before it are
abbrev pub OneIsMissing : List Files → List (List ℕ) → Type 0
OneIsMissing (files ∷ others) (name ∷ names) = (files name ≡ None) ⊎ ((script : List ℕ) × (files name ≡ Some script) × OneIsMissing others names)
OneIsMissing others names = ⊥

-- this is said of some station
abbrev pub SomeStation : {D R : Type 0} → (StationView D R → Type 0) → List (StationView D R) → Type 0
SomeStation says [] = ⊥
SomeStation says (s ∷ stations) = says s ⊎ SomeStation says stations

-- a fault that is told is that of an object whose count rose; and where counts rose, strictly and with room, the first is told: the output's goes before
-- that of replies, this before the feed's, and that before a script's
pub record TellsFaults {F D R O : Type 0} (c : Code) (feed : ShelfView F) (stations : List (StationView D R)) (out : SinkView O) : Type 0 where
  pub output : out.faults out.before < out.faults out.now → c ≡ code.OutFault
  pub replies : IsCalmSink out → SomeStation (λ s. s.replies.faults s.replies.before < s.replies.faults s.replies.now) stations → c ≡ code.ReplyFault
  pub intake : IsCalmSink out → AllByRecursion (λ s. IsCalmSink s.replies) stations → feed.faults feed.before < feed.faults feed.now → c ≡ code.FeedFault
  pub scripts :
      IsCalmSink out → AllByRecursion (λ s. IsCalmSink s.replies) stations → IsCalm (feed.faults feed.before) (feed.faults feed.now)
      → SomeStation (λ s. s.desk.faults s.desk.before < s.desk.faults s.desk.now) stations → c ≡ code.DeskFault
  pub only_output : c ≡ code.OutFault → HasBroken out
  pub only_replies : c ≡ code.ReplyFault → SomeStation (λ s. HasBroken s.replies) stations
  pub only_intake : c ≡ code.FeedFault → HasFailed feed
  pub only_scripts : c ≡ code.DeskFault → SomeStation (λ s. HasFailed s.desk) stations
