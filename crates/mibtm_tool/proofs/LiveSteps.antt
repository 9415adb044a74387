-- What a live run says of its objects, from what its part behind the feed says of them.
use Rattle.std.proofs.Common.{◌≡◌, ℕ, Bool, true, false, List, Option, Some, None, Ok, IfSome, IsOkAnd, IsSomeAnd, is_some, ap, ◌∙◌, subst}
use Rattle.std.specs.Prelude.{⊤}
use Rattle.run_model.specs.declared.code.Code.{Code}
use Rattle.run_model.specs.declared.code.Code.TheVariants as code
use Rattle.run_model.specs.declared.code.Input.TheVariants as input
use Rattle.mib_model.specs.declared.database.Database.{Database}
use Rattle.run_model.specs.RegisterHistories.{RegisterHistory}
use Rattle.mib_model.specs.Soundness.{IsSound}
use Rattle.session.specs.Sources.{Files}
use Rattle.live_session.specs.Live.{Lives, from, object, written_to}
use Rattle.mibtm_tool.proofs.DecodeSteps.{fed, stood_at}
use Rattle.mibtm_tool.proofs.StatementSteps.{each_told, missing_decoded}
use Rattle.mibtm_tool.specs.Live.{LivedBeside, RanBeside}
use Rattle.mibtm_tool.specs.Statement.{LivedBy, StoppedBeside, Unopened, Lived, names, shelves, Decoded}
use Rattle.tool_objects.specs.Told.{OfFile}
use Rattle.tool_objects.specs.Objects.{ShelfView, SinkView, HasStood, IsUncalled, IsUnwritten, shelf}
use Rattle.tool_objects.specs.Sources.{sound_in}

module _ {T F D O P : Type 0} (folder name desk_name : List ℕ) (tables : ShelfView T) (before mid now : F) (holds : F → Option Files)
    (left : F → Option (List ℕ)) (faults missed : F → ℕ) (desk : ShelfView D) (out : SinkView O) (replies : SinkView P) (db : Database) (held : Bool)
    (stood : HasStood tables) (sound : IsSound db) (read : IfSome (tables.holds tables.before) (λ files. sound_in files folder ≡ Ok db)) (is : held ≡ true)
    (told : IfSome (holds before) (λ files. held ≡ is_some (files name)))
    (starts : IfSome (holds before) (λ files. IfSome (files name) (λ octets. left mid ≡ Some octets)))
    (same : faults mid ≡ faults before) (turned : missed mid ≡ missed before) where
  abbrev pub feed : ShelfView F
  feed = shelf before now holds left faults missed

  abbrev pub behind : ShelfView F
  behind = shelf mid now holds left faults missed

  -- what is said of the octets that are left is said of those of the feed's file, by the database of the tables
  by_tables : (P : Database → Option (List ℕ) → Type 0) → P db (left mid)
      → IfSome (tables.holds tables.before) (λ files. IsOkAnd (sound_in files folder) (λ d. OfFile feed name (λ found. IsSomeAnd found (λ octets. P d (Some octets)))))
  by_tables P said =
      each_told (λ r. IsOkAnd r (λ d. OfFile feed name (λ found. IsSomeAnd found (λ octets. P d (Some octets))))) (tables.holds tables.before)
      (λ files. sound_in files folder) db read (fed (P db) (holds before) name held (left mid) is told starts said)

  stopped : (c : Code) → StoppedBeside c desk_name behind desk → Unopened c (names folder name desk_name) (shelves tables feed desk)
  stopped (code.NoFile input.Desk) (uncalled, same_desk, none) =
      (stood, ap faults uncalled ∙ same, same_desk, by_tables (λ d start. OfFile desk desk_name (λ found. found ≡ None)) none)
  stopped code.DeskFault (uncalled, missing) = (stood, ap faults uncalled ∙ same, missing, by_tables (λ d start. ⊤) tt)
  stopped code.Want (uncalled, same_desk) = (stood, ap faults uncalled ∙ same, same_desk)
  stopped code.Ok said = absurd said
  stopped (code.Usage misuse) said = absurd said
  stopped (code.BadMib fault) said = absurd said
  stopped (code.NoFile input.Feed) said = absurd said
  stopped (code.Cut count) said = absurd said
  stopped code.TablesFault said = absurd said
  stopped code.FeedFault said = absurd said
  stopped code.OutFault said = absurd said
  stopped code.ReplyFault said = absurd said
  stopped code.Limit said = absurd said

  ran : (c : Code) (history : RegisterHistory) → RanBeside c history db desk_name behind desk out replies
      → Lived c history (names folder name desk_name) (shelves tables feed desk) out replies
  ran c history said = record {
    tables_stood = stood;
    feed_turned = said.feed_turned ∙ turned;
    desk_turned = said.desk_turned;
    handed = said.handed;
    replied = said.replied;
    first = db;
    is_sound = sound;
    octets = left mid;
    lines = said.lines;
    of_tables = read;
    of_feed = stood_at (holds before) name held (left mid) is told starts;
    of_desk = said.of_desk;
    lives = subst (λ count. Lives c db history (object (left mid) (left now) count (faults now)) (from desk said.lines) (written_to out) (written_to replies)) same said.lives;
  }

  pub lived : (c : Code) (closed : Option RegisterHistory) → LivedBeside c closed db desk_name behind desk out replies
      → LivedBy c closed (names folder name desk_name) (shelves tables feed desk) out replies
  lived c None (said, unwritten, unreplied) = (stopped c said, unwritten, unreplied)
  lived c (Some history) said = ran c history said

-- the feed isn't there
pub missing_lived : {T F D O P : Type 0} (folder name desk_name : List ℕ) (tables : ShelfView T) (feed : ShelfView F) (desk : ShelfView D) (out : SinkView O) (replies : SinkView P) (db : Database) (held : Bool)
    → HasStood tables → IfSome (tables.holds tables.before) (λ files. sound_in files folder ≡ Ok db) → HasStood feed → IsUncalled desk → IsUnwritten out → IsUnwritten replies
    → held ≡ false → IfSome (feed.holds feed.before) (λ files. held ≡ is_some (files name)) → LivedBy (code.NoFile input.Feed) None (names folder name desk_name) (shelves tables feed desk) out replies
missing_lived folder name desk_name tables feed desk out replies db held stood told turned uncalled unwritten unreplied is said =
    of_decoded (missing_decoded folder name tables feed out db held stood told turned unwritten is said) where
      of_decoded : Decoded (code.NoFile input.Feed) folder name tables feed out → LivedBy (code.NoFile input.Feed) None (names folder name desk_name) (shelves tables feed desk) out replies
      of_decoded (stood, turned, unwritten, missing) = ((stood, turned, uncalled, missing), unwritten, unreplied)
