-- What a board says of its objects, from what its run says of them.
use Rattle.std.proofs.Common.{◌∙◌, ℕ, List, Option, None, Some, inr, ap, subst}
use Rattle.board_inputs.specs.Inputs.{AreOpened}
use Rattle.live_session.specs.Live.{object, written_to}
use Rattle.mib_model.specs.declared.database.Database.{Database}
use Rattle.run_model.specs.RegisterHistories.{RegisterHistory}
use Rattle.page_texts.specs.declared.code.BoardCode.{BoardCode}
use Rattle.session.specs.Sources.{Files}
use Rattle.tool_objects.specs.Objects.{ShelfView, SinkView, shelf}
use Rattle.tool_words.specs.Boards.{BoardWords}
use Rattle.live_board_tool.specs.Board.{Boarded, LivesShown, Ran, RanBy}

-- feed and desk before a call, where its run opened, and at its end
module _ {T F D P O R S : Type 0} (f0 f1 f2 : F) (d0 d1 d2 : D) (fholds : F → Option Files) (fleft : F → Option (List ℕ)) (ffaults fmissed : F → ℕ)
    (dholds : D → Option Files) (dleft : D → Option (List ℕ)) (dfaults dmissed : D → ℕ)
    (c : BoardCode) (w : BoardWords) (first : Database) (names : List (List ℕ)) (tables : ShelfView T) (page : ShelfView P)
    (out : SinkView O) (replies : SinkView R) (screen : SinkView S) where
  abbrev Opened : Type 0
  Opened = AreOpened first names w tables (shelf f0 f1 fholds fleft ffaults fmissed) (shelf d0 d1 dholds dleft dfaults dmissed) page

  -- a run from where its inputs stood is one from the call on
  ran-from : (history : RegisterHistory) → Opened
      → Ran c history first names (fleft f1) (dleft d1) (shelf f1 f2 fholds fleft ffaults fmissed) (shelf d1 d2 dholds dleft dfaults dmissed) out replies screen
      → Ran c history first names (fleft f1) (dleft d1) (shelf f0 f2 fholds fleft ffaults fmissed) (shelf d0 d2 dholds dleft dfaults dmissed) out replies screen
  ran-from history opened r = record {
    feed_turned = r.feed_turned ∙ opened.had.of_feed.turned;
    desk_turned = r.desk_turned ∙ opened.had.of_desk.turned;
    handed = r.handed;
    replied = r.replied;
    shown = r.shown;
    code = r.code;
    screen_failed = r.screen_failed;
    lives =
        subst (λ (n : ℕ × ℕ). LivesShown r.code r.screen_failed first names history (object (fleft f1) (fleft f2) n.0 (ffaults f2)) (object (dleft d1) (dleft d2) n.1 (dfaults d2))
        (written_to out) (written_to replies) (written_to screen)) (λ i. (opened.had.of_feed.stood i, opened.had.of_desk.stood i)) r.lives;
    is_code = r.is_code;
  }

  -- what a board says whose inputs were opened
  pub boarded : (closed : Option RegisterHistory) → Opened
      → RanBy c closed first names (shelf f1 f2 fholds fleft ffaults fmissed) (shelf d1 d2 dholds dleft dfaults dmissed) out replies screen
      → Boarded c closed w tables (shelf f0 f2 fholds fleft ffaults fmissed) (shelf d0 d2 dholds dleft dfaults dmissed) page out replies screen
  boarded None opened (is, same_feed, same_desk, unwritten, unreplied, unshown) =
      (inr (is, opened.sound.stood, ap ffaults same_feed ∙ opened.had.of_feed.stood, ap dfaults same_desk ∙ opened.had.of_desk.stood, opened.had.of_page.stood), unwritten, unreplied, unshown)
  boarded (Some history) opened r = record {
    first = first;
    names = names;
    octets = fleft f1;
    lines = dleft d1;
    sound = opened.sound;
    paged = opened.had.of_page;
    of_feed = opened.had.of_feed.held;
    of_desk = opened.had.of_desk.held;
    ran = ran-from history opened r;
  }
