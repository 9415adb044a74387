-- What contracts see of a display. [This project's own words.]
use Rattle.std.specs.Prelude.{ℕ, List}
use Rattle.atomic_table.specs.Seated.{TableId}
use Rattle.display_pages.specs.declared.page.Page.{Page}
use Rattle.page_board.specs.Ends.{board_seen_by, known_by}
use Rattle.page_screen.specs.declared.display.Display.{Display}

-- the names of its pages
abbrev pub names_of : Display → List (List ℕ)
names_of d = d.names.items

-- the pages that its viewer has seen published
abbrev pub seen_by : Display → List Page
seen_by d = (known_by d.viewer).seen

-- the board of its viewer
abbrev pub board_of : Display → TableId
board_of d = board_seen_by d.viewer
