-- The inputs of a panel: what is said of them where they were opened, and where one was not to be had. [This profile.]
use Rattle.std.specs.Prelude.{◌≡◌, ◌⊎◌, ℕ, List, ◌∷◌, IfSome, ⊤}
use Rattle.desk_panel_tool.specs.Stations.{AreIdle, StationView}
use Rattle.folder_tables.specs.Refusals.{HasRefusalCause, Refuses, code_of_refusal}
use Rattle.folder_tables.specs.declared.folder.Refusal.{Refusal}
use Rattle.run_model.specs.declared.code.Code.{Code}
use Rattle.run_model.specs.declared.code.Code.TheVariants as code
use Rattle.run_model.specs.declared.code.Input.TheVariants as input
use Rattle.mib_model.specs.declared.database.Database.{Database}
use Rattle.tool_objects.specs.Objects.{IsUncalled, IsUnwritten, ShelfView}
use Rattle.tool_objects.specs.Opened.{AreSound, IsTurned, IsUnturned}
use Rattle.tool_objects.specs.Sources.{sound_in}
use Rattle.tool_words.specs.Panels.{PanelWords}

-- each desk was turned to the file of its name
abbrev pub AreTurned : {D R : Type 0} → List (List ℕ) → List (StationView D R) → Type 0
AreTurned (name ∷ names) (s ∷ stations) = IsTurned name s.desk × IsUnwritten s.replies × AreTurned names stations
AreTurned names stations = ⊤

-- the first desk that was not to be had; those behind it weren't called
abbrev pub AreNotTurned : {D R : Type 0} → Code → List (List ℕ) → List (StationView D R) → Type 0
AreNotTurned c (name ∷ names) (s ∷ stations) =
    (IsUnturned (code.NoFile input.Desk) code.DeskFault c name s.desk × IsUnwritten s.replies × AreIdle stations)
    ⊎ (IsTurned name s.desk × IsUnwritten s.replies × AreNotTurned c names stations)
AreNotTurned c names stations = ⊥

-- sound tables were not to be had: they are refused, they failed, or memory ran out
pub record AreUnread {T : Type 0} (c : Code) (folder : List ℕ) (tables : ShelfView T) : Type 0 where
  pub refusal : Refusal
  pub is_code : c ≡ code_of_refusal refusal
  pub cause : HasRefusalCause refusal (tables.faults tables.before) (tables.faults tables.now)
  pub refused : IfSome (tables.holds tables.before) (λ files. Refuses refusal (sound_in files folder))

-- feed and desks stand at the start of their files
pub record AreHad {F D R : Type 0} (w : PanelWords) (feed : ShelfView F) (stations : List (StationView D R)) : Type 0 where
  pub of_feed : IsTurned w.feed feed
  pub of_desks : AreTurned w.desks stations

-- the first of feed and desks that was not to be had, and those behind it weren't called
abbrev pub AreNotHad : {F D R : Type 0} → Code → PanelWords → ShelfView F → List (StationView D R) → Type 0
AreNotHad c w feed stations =
    (IsUnturned (code.NoFile input.Feed) code.FeedFault c w.feed feed × AreIdle stations)
    ⊎ (IsTurned w.feed feed × AreNotTurned c w.desks stations)

-- all inputs were opened: sound tables, and feed and desks at the start of their files
pub record AreOpened {T F D R : Type 0} (db : Database) (w : PanelWords) (tables : ShelfView T) (feed : ShelfView F)
    (stations : List (StationView D R)) : Type 0 where
  pub sound : AreSound db w.folder tables
  pub had : AreHad w feed stations

-- the first input that was not to be had, with this end; those behind it weren't called
abbrev pub AreRefused : {T F D R : Type 0} → Code → PanelWords → ShelfView T → ShelfView F → List (StationView D R) → Type 0
AreRefused c w tables feed stations =
    (AreUnread c w.folder tables × IsUncalled feed × AreIdle stations)
    ⊎ ((db : Database) × AreSound db w.folder tables × AreNotHad c w feed stations)
