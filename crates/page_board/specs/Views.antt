-- Published pages, and what each end of a board knows of them. [This project's own words.]
use Rattle.std.specs.Prelude.{◌≡◌, ℕ, ◌<◌, true, false, List, [], ◌∷◌, ◌++◌, replicate}
use Rattle.std.specs.List.{AllByRecursion}
use mathlib.Core.Option.{some}
use lib.ListN.{get_elem?}
use Rattle.display_pages.specs.declared.page.Page.{Page}
use Rattle.display_pages.specs.declared.page.TheConstants.{MOST_CELLS}
use Rattle.display_pages.specs.Pages.{no_cell}
use Rattle.page_board.specs.declared.view.BoardView.{BoardView}

-- a page of no packet
abbrev pub no_page : Page
no_page = record { number = 0; edition = 1; cells = replicate MOST_CELLS no_cell }

-- the last of pages behind a page, or that page
abbrev pub last_behind : Page → List Page → Page
last_behind page [] = page
last_behind page (p ∷ pages) = last_behind p pages

-- the page that published pages show: the last of them, or that of no packet
abbrev pub page_shown : List Page → Page
page_shown pages = last_behind no_page pages

-- pages begin with others
abbrev pub BeginsWith : List Page → List Page → Type 0
BeginsWith pages front = (rest : List Page) × (pages ≡ front ++ rest)

-- the numbers of pages rise strictly, and are above this one
abbrev pub RisesAbove : ℕ → List Page → Type 0
RisesAbove low [] = Unit {0}
RisesAbove low (p ∷ pages) = (low < p.number) × RisesAbove p.number pages

-- a page is the one that some first part of pages shows
abbrev pub IsShownBy : List Page → Page → Type 0
IsShownBy pages page = (front : List Page) × BeginsWith pages front × (page ≡ page_shown front)

-- the end that publishes, before its first page
abbrev pub publisher : BoardView
publisher = record { publishes = true; seen = []; told = []; got = [] }

-- an end that looks, of which this is known: the pages that were published when it was made
abbrev pub onlooker : List Page → BoardView
onlooker pages = record { publishes = false; seen = pages; told = []; got = [] }

-- what an end knows of the published pages: it has seen a first part of them, all where it is the end that publishes, was told of first parts,
-- and got pages that a first part of what it has seen shows
pub record Knows (pages : List Page) (v : BoardView) : Type 0 where
  pub seen : BeginsWith pages v.seen
  pub all : v.publishes ≡ true → v.seen ≡ pages
  pub told : AllByRecursion (BeginsWith pages) v.told
  pub got : AllByRecursion (IsShownBy v.seen) v.got

-- the page of a board is the last of some pages, whose numbers rise from 1 on; each end knows some of them, and at most one end publishes
pub record Kept (page : Page) (views : List BoardView) : Type 0 where
  pub pages : List Page
  pub shows : page ≡ page_shown pages
  pub rises : RisesAbove 0 pages
  pub each : (seat : ℕ) (v : BoardView) → get_elem? views seat ≡ some v → Knows pages v
  pub one : (seat other : ℕ) (v w : BoardView) → get_elem? views seat ≡ some v → get_elem? views other ≡ some w
      → v.publishes ≡ true → w.publishes ≡ true → seat ≡ other

-- a page was published behind all that the end had published
abbrev pub Publishes : BoardView → Page → BoardView → Type 0
Publishes v page w = w ≡ record v { seen = v.seen ++ page ∷ [] }

-- a page was got: the last of those that are then seen, which begin with all that was seen before and with all that was told; their numbers
-- rise from 1 on, and each page that was got is shown by a first part of them
pub record Looks (v : BoardView) (page : Page) (w : BoardView) : Type 0 where
  pub later : BeginsWith w.seen v.seen
  pub told : AllByRecursion (BeginsWith w.seen) v.told
  pub same : w.told ≡ v.told
  pub got : w.got ≡ v.got ++ page ∷ []
  pub shows : page ≡ page_shown w.seen
  pub rises : RisesAbove 0 w.seen
  pub each : AllByRecursion (IsShownBy w.seen) w.got

-- what an end knows that was told what another had seen
abbrev pub told_of : BoardView → BoardView → BoardView
told_of v w = record v { told = w.seen ∷ v.told }
