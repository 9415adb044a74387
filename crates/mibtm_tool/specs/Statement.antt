-- The statement of `tool`: what a call shows of the objects that it is handed, by the status that it answers. [This profile.]
use Rattle.std.specs.Prelude.{◌≡◌, ◌≢◌, ◌≤◌, ◌⊎◌, ℕ, List, Option, Some, None, Ok, IfSome, IsSomeAnd, ⊤}
use Rattle.std.specs.Io.KnownBytes.{Appends}
use Rattle.tm_io.specs.Octets.{AppendsPrefix}
use Rattle.run_model.specs.declared.code.Code.{Code}
use Rattle.run_model.specs.declared.code.Code.TheVariants as code
use Rattle.run_model.specs.declared.code.Input.TheVariants as input
use Rattle.mib_model.specs.declared.database.Database.{Database}
use Rattle.run_model.specs.RegisterHistories.{RegisterHistory}
use Rattle.mib_model.specs.Soundness.{IsSound}
use Rattle.mib_model.specs.Summaries.{summary}
use Rattle.edition_register.specs.declared.outcome.Closed.{Closed}
use Rattle.live_session.specs.Live.{EndsAs, Object, Lives, StaysHandedOn, from, written_to}
use Rattle.mib_model.specs.declared.meaning.MadeFor as MadeFor
use Rattle.mib_model.specs.declared.meaning.Rows as Rows
use Rattle.tm_io.specs.Causes.{HasRisen}
use Rattle.mibtm_tool.specs.Drill.{drill_summary}
use Rattle.tool_objects.specs.Objects.{ShelfView, SinkView, HasStood, HasFailed, IsUncalled, IsUnwritten, HasBroken, Took, IsHandedOn, TookNothing}
use Rattle.tool_objects.specs.Opened.{AreSound}
use Rattle.tool_objects.specs.Sources.{sound_in}
use Rattle.tool_objects.specs.Told.{ByTables, HasMissed, HasTurned, IsRefused, OfFile, StoodAt}
use Rattle.decode_session.specs.Run.{Ran, Says, EndsWhole, EndsCut, EndsAtLimit, EndsUnread, EndsUnwritten}

-- The objects of a call are views of what they show before and now. A further command has its equations below, one for each status.

-- ---- what is said of the tables and the feed

-- the tables didn't fail and are a sound database, that of the folder where they are told, of which this is said
abbrev pub BySound : {T : Type 0} → List ℕ → ShelfView T → (Database → Type 0) → Type 0
BySound folder tables says = (db : Database) × AreSound db folder tables × says db

-- the feed was turned to its file, and a run by a database, of which this is said, began with what it had left: the file's octets, where it
-- tells them
pub record RanBy {F O : Type 0} (says : Says) (db : Database) (name : List ℕ) (feed : ShelfView F) (out : SinkView O) : Type 0 where
  pub turned : HasTurned feed
  pub octets : Option (List ℕ)
  pub of_feed : StoodAt feed name octets
  pub ran : Took out (Ran says db octets (feed.left feed.now))

-- the turn to the feed failed, and nothing was written
abbrev pub MissedFeed : {F O : Type 0} → ShelfView F → SinkView O → Type 0
MissedFeed feed out = HasRisen (feed.missed feed.before) (feed.missed feed.now) × TookNothing out

-- what each status of `check` says, in the order of the statuses; no other comes
abbrev pub Checked : {T O : Type 0} → Code → List ℕ → ShelfView T → SinkView O → Type 0
Checked code.Ok folder tables out = IsHandedOn out × BySound folder tables (λ db. Took out (λ old new. Appends old new (summary db)))
Checked (code.BadMib fault) folder tables out = HasStood tables × IsUnwritten out × IsRefused tables (λ files. sound_in files folder) fault
Checked code.TablesFault folder tables out = HasFailed tables × IsUnwritten out
Checked code.OutFault folder tables out = HasBroken out × BySound folder tables (λ db. Took out (λ old new. AppendsPrefix old new (summary db)))
Checked code.Want folder tables out = HasStood tables × IsUnwritten out
Checked other folder tables out = ⊥

-- what each status of `decode` says, in the order of the statuses; no other comes
abbrev pub Decoded : {T F O : Type 0} → Code → List ℕ → List ℕ → ShelfView T → ShelfView F → SinkView O → Type 0
Decoded code.Ok folder name tables feed out =
    HasStood feed × IsHandedOn out × BySound folder tables (λ db. RanBy EndsWhole db name feed out)
Decoded (code.BadMib fault) folder name tables feed out =
    HasStood tables × IsUncalled feed × IsUnwritten out × IsRefused tables (λ files. sound_in files folder) fault
Decoded (code.NoFile input.Feed) folder name tables feed out =
    HasStood tables × HasStood feed × IsUnwritten out
    × ByTables tables (λ files. sound_in files folder) (λ db. OfFile feed name (λ found. found ≡ None))
Decoded (code.Cut count) folder name tables feed out =
    HasStood feed × IsHandedOn out × BySound folder tables (λ db. RanBy (EndsCut count) db name feed out)
Decoded code.TablesFault folder name tables feed out = HasFailed tables × IsUncalled feed × IsUnwritten out
Decoded code.FeedFault folder name tables feed out =
    HasFailed feed × IsHandedOn out × BySound folder tables (λ db. MissedFeed feed out ⊎ RanBy EndsUnread db name feed out)
Decoded code.OutFault folder name tables feed out =
    (feed.faults feed.before ≤ feed.faults feed.now) × HasBroken out
    × BySound folder tables (λ db. RanBy (EndsUnwritten (feed.faults feed.before) (feed.faults feed.now)) db name feed out)
Decoded code.Limit folder name tables feed out =
    HasStood feed × IsHandedOn out × BySound folder tables (λ db. RanBy EndsAtLimit db name feed out)
Decoded code.Want folder name tables feed out = HasStood tables × HasStood feed × IsUnwritten out
Decoded other folder name tables feed out = ⊥

-- what each status of `drill` says, in the order of the statuses; no other comes
abbrev pub Drilled : {O : Type 0} → Code → ℕ → SinkView O → Type 0
Drilled code.Ok seed out = IsHandedOn out × Took out (λ old new. Appends old new (drill_summary seed))
Drilled code.OutFault seed out = HasBroken out × Took out (λ old new. AppendsPrefix old new (drill_summary seed))
Drilled code.Want seed out = IsUnwritten out
Drilled other seed out = ⊥

-- ---- what is said of `live`

-- the words of a `live` command: a folder of tables, a feed and a desk
pub record Names : Type 0 where
  pub folder : List ℕ
  pub feed : List ℕ
  pub desk : List ℕ

-- the names of a folder, a feed and a desk
abbrev pub names : List ℕ → List ℕ → List ℕ → Names
names folder feed desk = record { folder = folder; feed = feed; desk = desk }

-- the shelves of a live run
pub record Shelves (T F D : Type 0) : Type 0 where
  pub tables : ShelfView T
  pub feed : ShelfView F
  pub desk : ShelfView D

-- the shelves of tables, a feed and a desk
abbrev pub shelves : {T F D : Type 0} → ShelfView T → ShelfView F → ShelfView D → Shelves T F D
shelves tables feed desk = record { tables = tables; feed = feed; desk = desk }

-- a shelf that stands at the start of a file of these octets as a run opens
abbrev pub opened : {S : Type 0} → ShelfView S → List ℕ → Object
opened s octets = from s (Some octets)

-- a live run with this history left its objects so; the code and what it printed and replied are those of the definitions. It began with
-- one sound edition and with what feed and desk had left: those of the folder and of the files, where the shelves tell them. The code and the
-- counts of faults are tied to that run in any case
pub record Lived {T F D O P : Type 0} (c : Code) (history : RegisterHistory) (names : Names) (s : Shelves T F D)
    (out : SinkView O) (replies : SinkView P) : Type 0 where
  pub tables_stood : HasStood s.tables
  pub feed_turned : HasTurned s.feed
  pub desk_turned : HasTurned s.desk
  pub handed : c ≢ code.OutFault → out.handed out.now ≡ out.written out.now
  pub replied : StaysHandedOn (replies.faults replies.before) (replies.faults replies.now) replies.written replies.handed replies.before replies.now
  pub first : Database
  pub is_sound : IsSound first
  pub octets : Option (List ℕ)
  pub lines : Option (List ℕ)
  pub of_tables : IfSome (s.tables.holds s.tables.before) (λ files. sound_in files names.folder ≡ Ok first)
  pub of_feed : StoodAt s.feed names.feed octets
  pub of_desk : StoodAt s.desk names.desk lines
  pub lives : Lives c first history (from s.feed octets) (from s.desk lines) (written_to out) (written_to replies)

-- the tables are sound, and this is said of the feed's file
abbrev pub FeedIs : {T F D : Type 0} → Names → Shelves T F D → (Option (List ℕ) → Type 0) → Type 0
FeedIs names s says = ByTables s.tables (λ files. sound_in files names.folder) (λ db. OfFile s.feed names.feed says)

-- the tables are sound, the feed is held, and this is said of the desk's file
abbrev pub DeskIs : {T F D : Type 0} → Names → Shelves T F D → (Option (List ℕ) → Type 0) → Type 0
DeskIs names s says = FeedIs names s (λ feed. IsSomeAnd feed (λ octets. OfFile s.desk names.desk says))

-- what each status of a run that didn't open says of the shelves, in the order of the statuses; no other comes
abbrev pub Unopened : {T F D : Type 0} → Code → Names → Shelves T F D → Type 0
Unopened (code.BadMib fault) names s =
    HasStood s.tables × IsUncalled s.feed × IsUncalled s.desk × IsRefused s.tables (λ files. sound_in files names.folder) fault
Unopened (code.NoFile input.Feed) names s = HasStood s.tables × HasStood s.feed × IsUncalled s.desk × FeedIs names s (λ feed. feed ≡ None)
Unopened (code.NoFile input.Desk) names s = HasStood s.tables × HasStood s.feed × HasStood s.desk × DeskIs names s (λ desk. desk ≡ None)
Unopened code.TablesFault names s = HasFailed s.tables × IsUncalled s.feed × IsUncalled s.desk
Unopened code.FeedFault names s = HasStood s.tables × HasMissed s.feed × IsUncalled s.desk × ByTables s.tables (λ files. sound_in files names.folder) (λ db. ⊤)
Unopened code.DeskFault names s = HasStood s.tables × HasStood s.feed × HasMissed s.desk × FeedIs names s (λ feed. IsSomeAnd feed (λ octets. ⊤))
Unopened code.Want names s = HasStood s.tables × HasStood s.feed × HasStood s.desk
Unopened other names s = ⊥

-- what `live` says of its objects: where it closed a register, by the register's history; and else nothing was written
abbrev pub LivedBy : {T F D O P : Type 0} → Code → Option RegisterHistory → Names → Shelves T F D → SinkView O → SinkView P → Type 0
LivedBy c None names s out replies = Unopened c names s × IsUnwritten out × IsUnwritten replies
LivedBy c (Some history) names s out replies = Lived c history names s out replies

module _ {E B : Type 0} {rows : Rows.Ghosts E} {boards : MadeFor.Ghosts B} where
  -- what a closed register tells beside its history is what that comes to, from whichever edition it began with
  abbrev pub TellsItsEnd : Option (Closed E B rows boards) → Type 0
  TellsItsEnd closed = IfSome closed (λ told. (first : Database) × EndsAs first told)

-- what each status says of the part behind the tables and the feed, where that didn't open; no other comes
abbrev pub StoppedBeside : {F D : Type 0} → Code → List ℕ → ShelfView F → ShelfView D → Type 0
StoppedBeside (code.NoFile input.Desk) name feed desk = IsUncalled feed × HasStood desk × OfFile desk name (λ found. found ≡ None)
StoppedBeside code.DeskFault name feed desk = IsUncalled feed × HasMissed desk
StoppedBeside code.Want name feed desk = IsUncalled feed × HasStood desk
StoppedBeside other name feed desk = ⊥
