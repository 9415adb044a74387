-- What a board comes to where nothing hinders it, and where its page is refused. [This profile.]
use Rattle.std.specs.Prelude.{◌≡◌, ◌⊎◌, ◌==◌, ℕ, List, [], false, length, Option, None, Some, Ok}
use Rattle.live_board_tool.specs.Board.{LivesShown}
use Rattle.live_board_tool.specs.Codes.{code_of_live}
use Rattle.live_desk.specs.DeskEnds.{is_desk_fault, is_reply_fault}
use Rattle.live_session.specs.Live.{from, written_to}
use Rattle.run_model.specs.declared.code.Code.{Code}
use Rattle.mib_model.specs.declared.database.Database.{Database}
use Rattle.run_model.specs.Endings.{code_of_rest}
use Rattle.run_model.specs.RegisterHistories.{RegisterHistory}
use Rattle.decode_session.specs.Run.{most_packets}
use Rattle.page_texts.specs.declared.code.BoardCode.{BoardCode}
use Rattle.page_texts.specs.declared.code.BoardCode.TheVariants as code
use Rattle.session.specs.Sources.{Files}
use Rattle.tool_objects.specs.Objects.{ShelfView, SinkView}
use Rattle.tool_objects.specs.Sources.{sound_in}
use Rattle.tool_words.specs.Boards.{BoardWords}

-- by these files the tables are this database, and feed and desk have these octets
pub record AreThere (files feeds desks : Files) (w : BoardWords) (db : Database) (octets script : List ℕ) : Type 0 where
  pub tables : sound_in files w.folder ≡ Ok db
  pub feed : feeds w.feed ≡ Some octets
  pub desk : desks w.desk ≡ Some script

-- a run over this feed and this script of which nothing failed: all packets that were read are printed, the screen was given pages whole up to
-- that after the last packet, and the code is that of what the feed has left
pub record ShowsWhole {F D O R S : Type 0} (c : BoardCode) (history : RegisterHistory) (db : Database) (names : List (List ℕ)) (octets script : List ℕ)
    (feed : ShelfView F) (desk : ShelfView D) (out : SinkView O) (replies : SinkView R) (screen : SinkView S) : Type 0 where
  pub code : Code
  pub shows : LivesShown code false db names history (from feed (Some octets)) (from desk (Some script)) (written_to out) (written_to replies)
      (written_to screen)
  pub prints : shows.lives.prints.out_failed ≡ false
  pub reads : shows.lives.prints.feed_failed ≡ false
  pub asks : is_desk_fault shows.lives.desk_end ≡ false
  pub answers : is_reply_fault shows.lives.desk_end ≡ false
  pub none_left : shows.lives.prints.ahead.others ≡ []
  pub is_code : c ≡ code_of_live (code_of_rest (length shows.lives.prints.packets == most_packets) (length shows.lives.prints.rest))

-- it is that run, or memory ran out before it opened
abbrev pub CompletesBoard : {F D O R S : Type 0} → BoardCode → Option RegisterHistory → Database → List (List ℕ) → List ℕ → List ℕ
    → ShelfView F → ShelfView D → SinkView O → SinkView R → SinkView S → Type 0
CompletesBoard c None db names octets script feed desk out replies screen = c ≡ code.Want
CompletesBoard c (Some history) db names octets script feed desk out replies screen =
    ShowsWhole c history db names octets script feed desk out replies screen

-- it opened nothing: it is this code, or memory ran out before
abbrev pub RefusesBoard : BoardCode → BoardCode → Option RegisterHistory → Type 0
RefusesBoard refusal c closed = (closed ≡ None) × ((c ≡ refusal) ⊎ (c ≡ code.Want))
