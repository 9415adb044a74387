-- What the run of a board begins with. [This profile.]
use Rattle.std.specs.Prelude.{◌≡◌, ◌≤◌, []}
use Rattle.live_board_tool.specs.declared.opening.Opening.{Opening}
use Rattle.page_screen.specs.Ends as Screen
use Rattle.page_watch.specs.Ends.{PagerStandsFor, board_of, names_of}

-- one to 16 workers decode, its pager was told of no packet, and the display of the pager's names and board has written no page
pub record IsReadyToShow (opening : Opening) : Type 0 where
  pub workers : (1 ≤ opening.workers) × (opening.workers ≤ 16)
  pub stands : PagerStandsFor opening.pager []
  pub names : Screen.names_of opening.display ≡ names_of opening.pager
  pub board : Screen.board_of opening.display ≡ board_of opening.pager
  pub unshown : opening.display.shown ≡ 0
