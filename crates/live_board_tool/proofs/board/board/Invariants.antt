use Rattle.page_watch.specs.Ends.{board_of, names_of}
use Rattle.live_board_tool.proofs.board.board.Given as goal

abbrev pub ghosts-run_picked : goal.ghosts-run_picked
ghosts-run_picked g a = record { names = names_of a.opening.pager; board = board_of a.opening.pager }
