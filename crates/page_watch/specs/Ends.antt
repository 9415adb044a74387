-- What contracts see of a pager. [This project's own words.]
use Rattle.std.specs.Prelude.{◌≡◌, ◌⊎◌, ℕ, ◌<◌, List, [], ◌∷◌, ◌++◌}
use Rattle.atomic_table.specs.Seated.{TableId}
use Rattle.packet_run.specs.Told.{Member}
use Rattle.display_pages.specs.declared.page.Page.{Page}
use Rattle.page_board.specs.Ends as Board
use Rattle.page_board.specs.Sheets.{page_in}
use Rattle.page_watch.specs.declared.pager.Pager.{Pager}
use Rattle.page_watch.specs.Standing.{StandsFor}

-- the pages that a pager published
abbrev pub pages_of : Pager → List Page
pages_of p = Board.pages_of p.publisher

-- the number of the last of them, or 0
abbrev pub shown_of : Pager → ℕ
shown_of p = p.publisher.shown

-- the names of a pager's page
abbrev pub names_of : Pager → List (List ℕ)
names_of p = p.names.items

-- the page after the last packet that a pager was told of
abbrev pub last_of : Pager → Page
last_of p = page_in p.sheet

-- the board of a pager
abbrev pub board_of : Pager → TableId
board_of p = Board.board_of p.publisher

-- a pager stands for packets by its pages and its last page
abbrev pub PagerStandsFor : Pager → List Member → Type 0
PagerStandsFor p members = StandsFor (names_of p) (pages_of p) (last_of p) members

-- a page was published behind the others, of which each has a lower number; or nothing was published
abbrev pub MayPublish : Pager → Pager → Page → Type 0
MayPublish old new page =
    ((pages_of new ≡ pages_of old) × (shown_of new ≡ shown_of old))
    ⊎ ((pages_of new ≡ pages_of old ++ page ∷ []) × (shown_of old < page.number) × (shown_of new ≡ page.number))
