use Rattle.page_watch.specs.Ends.{board_of, names_of}
use Rattle.board_tests.proofs.pagers.a_page_that_is_committed_comes_to_the_viewer.Given as goal

abbrev pub ghosts-number_shown : goal.ghosts-number_shown
ghosts-number_shown g a = record { names = names_of a.pager; board = board_of a.pager }
