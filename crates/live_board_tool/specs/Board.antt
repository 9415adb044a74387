-- What a board leaves of the objects that it is handed. [This profile.]
use Rattle.std.specs.Prelude.{◌≡◌, ◌≢◌, ◌⊎◌, ℕ, Bool, false, List, [], Option, None, Some}
use Rattle.board_inputs.specs.Inputs.{AreRefused, IsPaged}
use Rattle.live_board_tool.specs.Codes.{code_by}
use Rattle.live_session.specs.Live.{Lives, Object, StaysHandedOn, from, members_by, written_to}
use Rattle.run_model.specs.declared.code.Code.{Code}
use Rattle.mib_model.specs.declared.database.Database.{Database}
use Rattle.run_model.specs.RegisterHistories.{RegisterHistory}
use Rattle.page_texts.specs.declared.code.BoardCode.{BoardCode}
use Rattle.page_texts.specs.declared.code.BoardCode.TheVariants as code
use Rattle.run_pages.specs.Shown.{ShowsRun}
use Rattle.tm_io.specs.Causes.{RisesWhere}
use Rattle.tool_objects.specs.Objects.{ShelfView, SinkView, HasStood, IsUncalled, IsUnwritten}
use Rattle.tool_objects.specs.Opened.{AreSound}
use Rattle.tool_objects.specs.Told.{HasTurned, StoodAt}
use Rattle.tool_words.specs.Boards.{BoardWords}

-- a live run and its screen: what the run left, which printed all that it read unless its output failed; and the screen, which failed or did
-- not, was given the texts of pages of those packets whose records were printed whole, each with what is kept after it
pub record LivesShown (c : Code) (failed : Bool) (first : Database) (names : List (List ℕ)) (history : RegisterHistory)
    (feed desk out replies screen : Object) : Type 0 where
  pub lives : Lives c first history feed desk out replies
  pub all : lives.prints.out_failed ≡ false → lives.prints.ahead.others ≡ []
  pub shows : ShowsRun names (members_by first history lives.prints.ahead.printed) failed screen.old screen.new
  pub count : RisesWhere failed screen.before screen.now

-- where all that was written to a sink was handed on before, and it didn't fail and still could, all that is written now is
abbrev pub StaysHanded : {O : Type 0} → SinkView O → Type 0
StaysHanded o = StaysHandedOn (o.faults o.before) (o.faults o.now) o.written o.handed o.before o.now

-- a run with this history and a page of these names, of a feed and a desk that had this left as it opened, ended with this code, which is that
-- of its live run or of its screen
pub record Ran {F D O R S : Type 0} (c : BoardCode) (history : RegisterHistory) (first : Database) (names : List (List ℕ)) (octets lines : Option (List ℕ))
    (feed : ShelfView F) (desk : ShelfView D) (out : SinkView O) (replies : SinkView R) (screen : SinkView S) : Type 0 where
  pub feed_turned : HasTurned feed
  pub desk_turned : HasTurned desk
  pub handed : c ≢ code.OutFault → out.handed out.now ≡ out.written out.now
  pub replied : StaysHanded replies
  pub shown : StaysHanded screen
  pub code : Code
  pub screen_failed : Bool
  pub lives : LivesShown code screen_failed first names history (from feed octets) (from desk lines) (written_to out) (written_to replies) (written_to screen)
  pub is_code : c ≡ code_by code screen_failed

-- a run from an edition on: where it opened, and closed its register, what it left; and else memory ran out and no object was called
abbrev pub RanBy : {F D O R S : Type 0} → BoardCode → Option RegisterHistory → Database → List (List ℕ) → ShelfView F → ShelfView D
    → SinkView O → SinkView R → SinkView S → Type 0
RanBy c None first names feed desk out replies screen =
    (c ≡ code.Want) × IsUncalled feed × IsUncalled desk × IsUnwritten out × IsUnwritten replies × IsUnwritten screen
RanBy c (Some history) first names feed desk out replies screen =
    Ran c history first names (feed.left feed.before) (desk.left desk.before) feed desk out replies screen

-- memory ran out, and no shelf failed
abbrev pub IsWanting : {T F D P : Type 0} → BoardCode → ShelfView T → ShelfView F → ShelfView D → ShelfView P → Type 0
IsWanting c tables feed desk page = (c ≡ code.Want) × HasStood tables × HasStood feed × HasStood desk × HasStood page

-- a board whose run opened: it began with the tables of the folder, the names of the page's file and with what feed and desk had left, which
-- are those of their files, where the shelves tell them
pub record Lived {T F D P O R S : Type 0} (c : BoardCode) (history : RegisterHistory) (w : BoardWords) (tables : ShelfView T) (feed : ShelfView F)
    (desk : ShelfView D) (page : ShelfView P) (out : SinkView O) (replies : SinkView R) (screen : SinkView S) : Type 0 where
  pub first : Database
  pub names : List (List ℕ)
  pub octets : Option (List ℕ)
  pub lines : Option (List ℕ)
  pub sound : AreSound first w.folder tables
  pub paged : IsPaged names w.page page
  pub of_feed : StoodAt feed w.feed octets
  pub of_desk : StoodAt desk w.desk lines
  pub ran : Ran c history first names octets lines feed desk out replies screen

-- what a board says of its objects: where it closed a register, by the register's history; and else an input was not to be had or memory ran
-- out, and nothing was written
abbrev pub Boarded : {T F D P O R S : Type 0} → BoardCode → Option RegisterHistory → BoardWords → ShelfView T → ShelfView F → ShelfView D → ShelfView P
    → SinkView O → SinkView R → SinkView S → Type 0
Boarded c None w tables feed desk page out replies screen =
    (AreRefused c w tables feed desk page ⊎ IsWanting c tables feed desk page) × IsUnwritten out × IsUnwritten replies × IsUnwritten screen
Boarded c (Some history) w tables feed desk page out replies screen = Lived c history w tables feed desk page out replies screen
