-- What a panel leaves of the objects that it is handed. [This profile.]
use Rattle.std.specs.Prelude.{◌≡◌, ◌≢◌, ◌⊎◌, ℕ, List, [], ◌∷◌, map, Option, None, Some, ⊤}
use Rattle.std.specs.List.{AllByRecursion}
use Rattle.desk_panel_tool.specs.Inputs.{AreRefused}
use Rattle.desk_panel_tool.specs.Stations.{AreIdle, StationView}
use Rattle.live_session.specs.Live.{StaysHandedOn, from, written_to}
use Rattle.run_model.specs.declared.code.Code.{Code}
use Rattle.run_model.specs.declared.code.Code.TheVariants as code
use Rattle.mib_model.specs.declared.database.Database.{Database}
use Rattle.run_model.specs.RegisterHistories.{RegisterHistory}
use Rattle.panel_session.specs.Panel.{LivesPanel, Station}
use Rattle.tool_objects.specs.Objects.{HasStood, IsUncalled, IsUnwritten, ShelfView, SinkView}
use Rattle.tool_objects.specs.Opened.{AreSound}
use Rattle.tool_objects.specs.Told.{HasTurned, StoodAt}
use Rattle.tool_words.specs.Panels.{PanelWords}

-- what is left of each desk before a call
abbrev pub lines_before : {D R : Type 0} → List (StationView D R) → List (Option (List ℕ))
lines_before stations = map (λ s. s.desk.left s.desk.before) stations

-- these desks have the scripts and the replies of these stations, of which each had this left as the run opened
abbrev pub AreOf : {D R : Type 0} → List Station → List (Option (List ℕ)) → List (StationView D R) → Type 0
AreOf [] [] [] = ⊤
AreOf (desk ∷ desks) (lines ∷ others) (s ∷ stations) = (desk.script ≡ from s.desk lines) × (desk.replies ≡ written_to s.replies) × AreOf desks others stations
AreOf desks lines stations = ⊥

-- where the desks tell it, the files of these names are held, and this is what they had left as a run opened
abbrev pub StoodAtEach : {D R : Type 0} → List (List ℕ) → List (StationView D R) → List (Option (List ℕ)) → Type 0
StoodAtEach [] [] [] = ⊤
StoodAtEach (name ∷ names) (s ∷ stations) (lines ∷ others) = StoodAt s.desk name lines × StoodAtEach names stations others
StoodAtEach names stations lines = ⊥

-- where all that was replied was handed on before, and the replies didn't fail and still could, all that is replied now is
abbrev pub StaysReplied : {D R : Type 0} → StationView D R → Type 0
StaysReplied s = let r = s.replies in StaysHandedOn (r.faults r.before) (r.faults r.now) r.written r.handed r.before r.now

-- a run with this history, of a feed and desks that had this left as it opened, ended with this code; its desks' scripts ended somehow
pub record Ran {F D R O : Type 0} (c : Code) (history : RegisterHistory) (first : Database) (octets : Option (List ℕ)) (lines : List (Option (List ℕ)))
    (feed : ShelfView F) (stations : List (StationView D R)) (out : SinkView O) : Type 0 where
  pub feed_turned : HasTurned feed
  pub desks_turned : AllByRecursion (λ s. HasTurned s.desk) stations
  pub handed : c ≢ code.OutFault → out.handed out.now ≡ out.written out.now
  pub replied : AllByRecursion (λ s. StaysReplied s) stations
  pub desks : List Station
  pub are_of : AreOf desks lines stations
  pub lives : LivesPanel c first history (from feed octets) desks (written_to out)

-- a run from an edition on: where it opened, and closed its register, what it left; and else memory ran out and no object was called
abbrev pub RanBy : {F D R O : Type 0} → Code → Option RegisterHistory → Database → ShelfView F → List (StationView D R) → SinkView O → Type 0
RanBy c None first feed stations out = (c ≡ code.Want) × IsUncalled feed × AreIdle stations × IsUnwritten out
RanBy c (Some history) first feed stations out = Ran c history first (feed.left feed.before) (lines_before stations) feed stations out

-- memory ran out, and no shelf failed
abbrev pub IsWanting : {T F D R : Type 0} → Code → ShelfView T → ShelfView F → List (StationView D R) → Type 0
IsWanting c tables feed stations = (c ≡ code.Want) × HasStood tables × HasStood feed × AllByRecursion (λ s. HasStood s.desk) stations

-- a panel whose run opened: it began with the tables of the folder and with what feed and desks had left, which are those of their files, where
-- the shelves tell them
pub record Lived {T F D R O : Type 0} (c : Code) (history : RegisterHistory) (w : PanelWords) (tables : ShelfView T) (feed : ShelfView F)
    (stations : List (StationView D R)) (out : SinkView O) : Type 0 where
  pub first : Database
  pub octets : Option (List ℕ)
  pub lines : List (Option (List ℕ))
  pub sound : AreSound first w.folder tables
  pub of_feed : StoodAt feed w.feed octets
  pub of_desks : StoodAtEach w.desks stations lines
  pub ran : Ran c history first octets lines feed stations out

-- what a panel says of its objects: where it closed a register, by the register's history; and else an input was not to be had or memory ran out,
-- and nothing was written
abbrev pub Paneled : {T F D R O : Type 0} → Code → Option RegisterHistory → PanelWords → ShelfView T → ShelfView F → List (StationView D R)
    → SinkView O → Type 0
Paneled c None w tables feed stations out =
    (AreRefused c w tables feed stations ⊎ IsWanting c tables feed stations) × IsUnwritten out × AllByRecursion (λ s. IsUnwritten s.replies) stations
Paneled c (Some history) w tables feed stations out = Lived c history w tables feed stations out
