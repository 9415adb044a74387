-- What contracts see of the ends of a board. [This project's own words.]
use Rattle.std.specs.Prelude.{List}
use Rattle.atomic_table.specs.Seated.{TableId}
use Rattle.crossbeam_utils.specs.Seq.{cell_view}
use Rattle.display_pages.specs.declared.page.Page.{Page}
use Rattle.page_board.specs.declared.note.Note.{Note}
use Rattle.page_board.specs.declared.publisher.Publisher.{Publisher}
use Rattle.page_board.specs.declared.view.BoardView.{BoardView}
use Rattle.page_board.specs.declared.viewer.Viewer.{Viewer}

-- the pages that were published
abbrev pub pages_of : Publisher → List Page
pages_of p = (cell_view p.pass).seen

-- the board of a publisher
abbrev pub board_of : Publisher → TableId
board_of p = p.pass.table_id

-- what a viewer knows
abbrev pub known_by : Viewer → BoardView
known_by v = cell_view v.pass

-- the board of a viewer
abbrev pub board_seen_by : Viewer → TableId
board_seen_by v = v.pass.table_id

-- the pages that were published when a note was made
abbrev pub pages_noted : Note → List Page
pages_noted n = (cell_view n.pass).seen

-- the board of a note
abbrev pub board_noted : Note → TableId
board_noted n = n.pass.table_id
