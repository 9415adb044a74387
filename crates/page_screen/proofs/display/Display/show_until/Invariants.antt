use Rattle.std.proofs.Common.{◌≡◌, false}
use Rattle.page_board.specs.Views.{IsShownBy}
use Rattle.page_screen.specs.Ends.{board_of, names_of, seen_by}
use Rattle.page_screen.specs.Shows.{Shows}
use Rattle.page_screen.proofs.display.Display.show_until.Given as goal

abbrev pub invariant-loop : goal.invariant-loop
invariant-loop g l = record {
  shows :
      Shows (names_of l.initial.self) (IsShownBy (seen_by l.self)) false l.initial.self.shown l.self.shown
      (g.S.Sink.written l.initial.screen) (g.S.Sink.written l.screen);
  names : names_of l.self ≡ names_of l.initial.self;
  board : board_of l.self ≡ board_of l.initial.self;
  handed : g.S.Sink.handed l.initial.screen ≡ g.S.Sink.written l.initial.screen → g.S.Sink.handed l.screen ≡ g.S.Sink.written l.screen;
  faults : g.S.Sink.faults l.screen ≡ g.S.Sink.faults l.initial.screen;
  borrow : g.S.Sink.borrow l.screen ≡ g.S.Sink.borrow l.initial.screen;
}
