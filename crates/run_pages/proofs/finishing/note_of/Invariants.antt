use Rattle.std.proofs.Common.{◌≡◌}
use Rattle.page_watch.specs.Ends.{board_of, pages_of, shown_of}
use Rattle.run_pages.proofs.finishing.note_of.Given as goal

abbrev pub invariant-loop : goal.invariant-loop
invariant-loop g l = record {
  pages : pages_of l.pager ≡ pages_of l.initial.pager;
  board : board_of l.pager ≡ board_of l.initial.pager;
  shown : shown_of l.pager ≡ shown_of l.initial.pager;
}
