-- What `live` comes to where nothing hinders it, and what is said of its part behind the tables and the feed. [This profile.]
use Rattle.std.specs.Prelude.{◌≡◌, ◌≢◌, ◌⊎◌, ◌<◌, ◌==◌, ◌++◌, false, List, [], length, Option, Some, None, Ok, ℕ, if◌then◌else◌}
use Rattle.std.specs.List.{All, concat, list_any}
use Rattle.std.specs.Io.KnownBytes.{Appends}
use Rattle.decode_session.specs.Run.{most_packets}
use Rattle.session.specs.Sources.{Files}
use Rattle.live_desk.specs.DeskEnds.{is_desk_fault, is_reply_fault, limit_line}
use Rattle.live_session.specs.Live.{Lives, StaysHandedOn, Object, from, read_of, written_to}
use Rattle.run_model.specs.declared.code.Code.{Code}
use Rattle.run_model.specs.declared.code.Code.TheVariants as code
use Rattle.mib_model.specs.declared.database.Database.{Database}
use Rattle.run_model.specs.Desk.{DeskReply}
use Rattle.run_model.specs.DeskRuns.{is_want, prelude}
use Rattle.run_model.specs.Endings.{code_of_rest}
use Rattle.run_model.specs.Output.{output}
use Rattle.mib_model.specs.Packets.{IsCut, IsPacket}
use Rattle.run_model.specs.RegisterHistories.{RegisterHistory}
use Rattle.run_model.specs.Replies.{desk_text}
use Rattle.run_model.specs.Script as Script
use Rattle.run_model.specs.Script.{reaches_limit}
use Rattle.mib_model.specs.Texts.{rest_text, rest_unless}
use Rattle.tool_objects.specs.Calm.{IsCalmSink}
use Rattle.tool_objects.specs.Objects.{ShelfView, SinkView, IsUnwritten, Took}
use Rattle.tool_objects.specs.Sources.{sound_in}
use Rattle.mibtm_tool.specs.Statement.{Names, Shelves, StoppedBeside, opened}
use Rattle.tool_objects.specs.Told.{HasTurned, StoodAt}
use Rattle.mibtm_tool.specs.Tool.{Held, IsSteady}

-- ---- a live run that nothing hinders

-- the shelves hold these files
pub record HoldFiles {T F D : Type 0} (s : Shelves T F D) (files feeds desks : Files) : Type 0 where
  pub of_tables : Held s.tables files
  pub of_feed : Held s.feed feeds
  pub of_desk : Held s.desk desks

-- by these files the tables are this database, and feed and desk have these octets
pub record AreFound (files feeds desks : Files) (names : Names) (db : Database) (octets script : List ℕ) : Type 0 where
  pub tables : sound_in files names.folder ≡ Ok db
  pub feed : feeds names.feed ≡ Some octets
  pub desk : desks names.desk ≡ Some script

-- no object failed, and the counts could tell
pub record AreSteady {T F D O P : Type 0} (s : Shelves T F D) (out : SinkView O) (replies : SinkView P) : Type 0 where
  pub tables : IsSteady s.tables
  pub feed : IsSteady s.feed
  pub desk : IsSteady s.desk
  pub output : IsCalmSink out
  pub answers : IsCalmSink replies

-- the feed begins with the most packets that a run reads
abbrev pub BeginsWithMost : List ℕ → List (List ℕ) → List ℕ → Type 0
BeginsWithMost octets packets rest =
    (more : List ℕ) × (octets ≡ concat packets ++ more) × All IsPacket packets × (length packets ≡ most_packets) × (rest ≡ [])

-- these are the packets that a run reads of a feed that nothing hinders, and the rest behind them
abbrev pub AreRead : List ℕ → List (List ℕ) → List ℕ → Type 0
AreRead octets packets rest = (IsCut octets packets rest × (length packets < most_packets)) ⊎ BeginsWithMost octets packets rest

-- the line of the limit, where a script reaches it
abbrev pub limit_of : List ℕ → List ℕ
limit_of octets = if reaches_limit octets then limit_line else []

-- a run over this feed and this script, in which no side was hindered: so all packets are printed, and all lines are handled and replied to
pub record LivesWhole {T F D O P : Type 0} (c : Code) (history : RegisterHistory) (db : Database) (octets script : List ℕ) (s : Shelves T F D)
    (out : SinkView O) (replies : SinkView P) : Type 0 where
  pub lives : Lives c db history (opened s.feed octets) (opened s.desk script) (written_to out) (written_to replies)
  pub prints : lives.prints.out_failed ≡ false
  pub reads : lives.prints.feed_failed ≡ false
  pub asks : is_desk_fault lives.desk_end ≡ false
  pub replies_all : is_reply_fault lives.desk_end ≡ false
  pub are_read : AreRead octets lives.prints.packets lives.prints.rest
  pub is_code : c ≡ code_of_rest (length lives.prints.packets == most_packets) (length lives.prints.rest)
  pub printed : Took out (λ old new. Appends old new (output db lives.prints.packets history (rest_text lives.prints.rest)))
  pub handled : lives.desked.handled ≡ Script.script script
  pub replied : Took replies
      (λ old new. Appends old new (desk_text None (lives.desked.early_replies ++ lives.desked.late_replies) ++ limit_of script))

-- it is that run, or memory ran out before it opened
abbrev pub CompletesLive : {T F D O P : Type 0} → Code → Option RegisterHistory → Database → List ℕ → List ℕ → Shelves T F D
    → SinkView O → SinkView P → Type 0
CompletesLive c None db octets script s out replies = c ≡ code.Want
CompletesLive c (Some history) db octets script s out replies = LivesWhole c history db octets script s out replies

-- ---- a live run that is refused

-- it opened nothing: it is this code, or memory ran out before
abbrev pub RefusesLive : Code → Code → Option RegisterHistory → Type 0
RefusesLive refusal c closed = (closed ≡ None) × ((c ≡ refusal) ⊎ (c ≡ code.Want))

-- ---- the same of the part behind the tables and the feed

-- a run from an edition on, whose feed stood at the start of its file, left its objects so
pub record RanBeside {F D O P : Type 0} (c : Code) (history : RegisterHistory) (first : Database) (name : List ℕ)
    (feed : ShelfView F) (desk : ShelfView D) (out : SinkView O) (replies : SinkView P) : Type 0 where
  pub feed_turned : HasTurned feed
  pub desk_turned : HasTurned desk
  pub handed : c ≢ code.OutFault → out.handed out.now ≡ out.written out.now
  pub replied : StaysHandedOn (replies.faults replies.before) (replies.faults replies.now) replies.written replies.handed replies.before replies.now
  pub lines : Option (List ℕ)
  pub of_desk : StoodAt desk name lines
  pub lives : Lives c first history (read_of feed) (from desk lines) (written_to out) (written_to replies)

-- what it says of its objects
abbrev pub LivedBeside : {F D O P : Type 0} → Code → Option RegisterHistory → Database → List ℕ → ShelfView F → ShelfView D
    → SinkView O → SinkView P → Type 0
LivedBeside c None first name feed desk out replies = StoppedBeside c name feed desk × IsUnwritten out × IsUnwritten replies
LivedBeside c (Some history) first name feed desk out replies = RanBeside c history first name feed desk out replies

-- ---- live runs that their script decides

-- the lines of a script up to and with its first `go` are all its lines
abbrev pub EndsWithFirstGo : List ℕ → Type 0
EndsWithFirstGo script = prelude false (Script.script script) ≡ Script.script script

module _ {c : Code} {db : Database} {history : RegisterHistory} {feed desk out replies : Object} where
  -- the replies of a run's desk, in their order
  abbrev pub replies_of : Lives c db history feed desk out replies → List DeskReply
  replies_of run = run.desked.early_replies ++ run.desked.late_replies

  -- a run over this script whose desk and replies didn't fail, and that memory refused nothing
  pub record IsUnhindered (script : List ℕ) (run : Lives c db history feed desk out replies) : Type 0 where
    pub reads : desk.old ≡ Some script
    pub asks : is_desk_fault run.desk_end ≡ false
    pub answers : is_reply_fault run.desk_end ≡ false
    pub no_want : list_any is_want (replies_of run) ≡ false

-- two runs came to one history, one text and one list of replies, and to one code unless one output failed alone
pub record ComeToTheSame {c d : Code} {db : Database} {history other : RegisterHistory} {feed desk out replies source lines sink told : Object}
    (one : Lives c db history feed desk out replies) (two : Lives d db other source lines sink told) : Type 0 where
  pub histories : history ≡ other
  pub texts :
      output db one.prints.packets history (rest_unless one.prints.feed_failed one.prints.rest)
      ≡ output db two.prints.packets other (rest_unless two.prints.feed_failed two.prints.rest)
  pub replied : replies_of one ≡ replies_of two
  pub codes : one.prints.out_failed ≡ two.prints.out_failed → c ≡ d

-- runs from one database on, over a script that ends with its first `go`, to which their feeds gave the same and failed alike, come to the
-- same, however their sides took turns
abbrev pub ScriptDecides : Type 0
ScriptDecides =
    (script : List ℕ) (c d : Code) (db : Database) (history other : RegisterHistory) (feed desk out replies source lines sink told : Object) →
    (one : Lives c db history feed desk out replies) (two : Lives d db other source lines sink told) → EndsWithFirstGo script →
    IsUnhindered script one → IsUnhindered script two → one.prints.read ≡ two.prints.read → one.prints.feed_failed ≡ two.prints.feed_failed →
    ComeToTheSame one two
