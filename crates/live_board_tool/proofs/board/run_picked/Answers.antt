use Rattle.std.proofs.Common.{◌≡◌, ◌∙◌, ◌⊎◌, [], List, OnOk, ap, sym, subst}
use Rattle.std.specs.Result.{is_err}
use Rattle.edition_register.specs.Seats.{history_of}
use Rattle.live_session.specs.Live.{object}
use Rattle.live_session.specs.Opened.{first_in, watch_in}
use Rattle.run_model.specs.declared.code.Code.{Code}
use Rattle.mib_model.specs.declared.database.Database.{Database}
use Rattle.packet_run.specs.Told.{Member}
use Rattle.page_board.specs.Views.{IsShownBy}
use Rattle.page_screen.specs.Ends as Screen
use Rattle.page_screen.specs.Shows.{Shows}
use Rattle.page_watch.specs.declared.pager.Pager.{Pager}
use Rattle.page_watch.specs.Ends.{PagerStandsFor, last_of, pages_of, shown_of}
use Rattle.page_watch.specs.Standing.{StandsFor}
use Rattle.run_pages.specs.Runs.{pager_of}
use Rattle.live_board_tool.specs.Board.{LivesShown}
use Rattle.live_board_tool.specs.Codes.{code_by}
use Rattle.live_board_tool.proofs.LivesFacts.{handed-on, lives-shown, unless-risen}
use Rattle.live_board_tool.proofs.board.run_picked.Goals as goal

pub returns-clause-ran : goal.returns-clause-ran
returns-clause-ran g c =
    let opened = c.in-Ok.opened in let ready = c.requires.ready in
    let ran = c.run_shown-lived in let left = ran.ensures.leaves in let taken = c.into_pager-pager in let ended = c.finish-shown in let pager = taken.result in
    let lived = ran.result.0.lived in let failed = is_err ended.result in
    let written = g.S.Sink.written in let faults = g.S.Sink.faults in
    let display = c.args.opening.display in let mid = ran.new.display in let names = g.N.PageBoard.names in
    let before = c.args.screen.now in let now = ended.new.screen in
    let old = written before in let at = written ran.new.screen in let new = written now in
    let feed = object (g.F.Source.left c.args.feed.now) (g.F.Source.left ran.new.feed) (g.F.Source.faults c.args.feed.now) (g.F.Source.faults ran.new.feed) in
    let desk = object (g.D.Source.left c.args.desk.now) (g.D.Source.left ran.new.desk) (g.D.Source.faults c.args.desk.now) (g.D.Source.faults ran.new.desk) in
    let out = object (g.O.Sink.written c.args.out.now) (g.O.Sink.written ran.new.out) (g.O.Sink.faults c.args.out.now) (g.O.Sink.faults ran.new.out) in
    let replies = object (g.R.Sink.written c.args.replies.now) (g.R.Sink.written ran.new.replies) (g.R.Sink.faults c.args.replies.now) (g.R.Sink.faults ran.new.replies) in
    let named : Screen.names_of display ≡ names = ready.names ∙ c.requires.names in
    let untold : PagerStandsFor (pager_of (watch_in opened)) [] =
    subst (λ p. PagerStandsFor (pager_of p) []) (sym c.in-Ok.ensures.watch) (subst (λ (p : Pager). PagerStandsFor p []) (sym c.new.ensures) ready.stands) in
    let lives : LivesShown lived.code failed (first_in opened) names (history_of lived.closed) feed desk out replies (object old new (faults before) (faults now)) =
    lives-shown written faults before ran.new.screen now ran.result.1 ended.result
    (λ p (members : List Member). PagerStandsFor (pager_of p) members) (watch_in opened) ran.result.0.watch lived.code (first_in opened) (history_of lived.closed)
    feed desk out replies names (pages_of pager) (Screen.seen_by mid) (last_of pager) display.shown mid.shown ended.new.display.shown (shown_of pager)
    left.watched untold
    (λ members stands. subst (λ ns. StandsFor ns (pages_of pager) (last_of pager) members) taken.ensures.names (subst (λ (p : Pager). PagerStandsFor p members) (sym taken.ensures.pager) stands))
    ready.unshown ended.ensures.later pager.publisher.number
    (subst (λ ns. Shows ns (IsShownBy (Screen.seen_by mid)) (is_err ran.result.1) display.shown mid.shown old at) named ran.ensures.shows)
    (subst (λ ns. OnOk ran.result.1 (Shows ns (λ page. IsShownBy (pages_of pager) page ⊎ (page ≡ last_of pager)) failed mid.shown ended.new.display.shown at new))
    (ran.ensures.names ∙ named) ended.ensures.shows)
    ended.ensures.number ended.ensures.stopped ran.ensures.cause ended.ensures.cause in
    record {
      feed_turned = left.feed_turned;
      desk_turned = left.desk_turned;
      handed = λ other. left.handed (λ is. other (c.merged.ensures ∙ ap (λ (k : Code). code_by k failed) is));
      replied = left.replied;
      shown = λ same more all. unless-risen (faults before) (faults now) ended.result lives.count
          (handed-on written g.S.Sink.handed before ran.new.screen now ran.result.1 ended.result ran.ensures.screen_handed ended.ensures.handed ended.ensures.stopped) same more all;
      code = lived.code;
      screen_failed = failed;
      lives = subst (λ (db : Database). LivesShown lived.code failed db names (history_of lived.closed) feed desk out replies (object old new (faults before) (faults now))) c.in-Ok.ensures.first lives;
      is_code = c.merged.ensures;
    }
