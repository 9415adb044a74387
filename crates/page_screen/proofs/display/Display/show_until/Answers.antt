use Rattle.std.proofs.Common.{◌∙◌, false, true}
use Rattle.page_board.specs.Views.{IsShownBy}
use Rattle.page_screen.specs.Ends.{names_of, seen_by}
use Rattle.page_screen.proofs.ShowFacts.{shows-err, shows-on}
use Rattle.page_screen.proofs.display.Display.show_until.Goals as goal

pub returns-in_err-show-clause-shows : goal.returns-in_err-show-clause-shows
returns-in_err-show-clause-shows g c =
    let first = c.args.self.now in let at = c.loop.self in let after = c.show.new.self in
    let old = g.S.Sink.written c.args.screen.now in let mid = g.S.Sink.written c.loop.screen in let new = g.S.Sink.written c.show.new.screen in
    shows-err c.from_residual.result (names_of first) (IsShownBy (seen_by after)) first.shown after.shown old new c.from_residual.ensures.0
    (shows-on (names_of first) (names_of at) (seen_by at) (seen_by after) true first.shown at.shown after.shown old mid new
    c.loop.invariant.names c.show.ensures.later c.loop.invariant.shows c.in_err-show.ensures.shows)

pub returns-then-rest-clause-shows : goal.returns-then-rest-clause-shows
returns-then-rest-clause-shows g c =
    let first = c.args.self.now in let at = c.loop.self in let after = c.show.new.self in
    shows-on (names_of first) (names_of at) (seen_by at) (seen_by after) false first.shown at.shown after.shown
    (g.S.Sink.written c.args.screen.now) (g.S.Sink.written c.loop.screen) (g.S.Sink.written c.show.new.screen)
    c.loop.invariant.names c.show.ensures.later c.loop.invariant.shows c.in_ok-show.ensures.shows

pub loop-preserved : goal.loop-preserved
loop-preserved g c =
    let first = c.args.self.now in let at = c.loop.self in let after = c.show.new.self in let inv = c.loop.invariant in
    record {
      shows =
          shows-on (names_of first) (names_of at) (seen_by at) (seen_by after) false first.shown at.shown after.shown
          (g.S.Sink.written c.args.screen.now) (g.S.Sink.written c.loop.screen) (g.S.Sink.written c.show.new.screen)
          inv.names c.show.ensures.later inv.shows c.in_ok-show.ensures.shows;
      names = c.show.ensures.names ∙ inv.names;
      board = c.show.ensures.board ∙ inv.board;
      handed = λ all. c.in_ok-show.ensures.handed (inv.handed all);
      faults = c.in_ok-show.ensures.cause.ok ∙ inv.faults;
      borrow = c.show.ensures.borrow ∙ inv.borrow;
    }
