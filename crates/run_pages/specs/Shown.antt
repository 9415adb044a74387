-- What a screen shows of a run. [This profile.]
use Rattle.std.specs.Prelude.{◌≡◌, ◌⊎◌, ℕ, ◌<◌, Bool, List, [], ◌∷◌, Option}
use Rattle.std.specs.List.{AllByRecursion, flat_map}
use Rattle.display_pages.specs.declared.page.Page.{Page}
use Rattle.display_pages.specs.Pages.{first_page, page_text}
use Rattle.packet_run.specs.Told.{Member}
use Rattle.page_board.specs.Views.{RisesAbove, last_behind}
use Rattle.page_watch.specs.Standing.{last_page, page_of}
use Rattle.tm_io.specs.Octets.{WritesUnless}

-- the numbers of packets rise strictly, and are above this one
abbrev pub NumbersRise : ℕ → List Member → Type 0
NumbersRise low [] = Unit {0}
NumbersRise low (m ∷ members) = (low < m.number) × NumbersRise m.number members

-- a page is that of one of these packets
abbrev pub IsOfOne : List (List ℕ) → List Member → Page → Type 0
IsOfOne names [] page = ⊥
IsOfOne names (m ∷ members) page = (page ≡ page_of names m) ⊎ IsOfOne names members page

-- pages are those of some of these packets, with numbers that rise from 1 on, and the last of them is that of the last packet: so there is none
-- where there is no packet
pub record ArePagesOfRun (names : List (List ℕ)) (members : List Member) (pages : List Page) : Type 0 where
  pub each : AllByRecursion (IsOfOne names members) pages
  pub rises : RisesAbove 0 pages
  pub last : last_behind (first_page names) pages ≡ last_page names members

-- a screen was given the texts of such pages, one behind the other, or where that failed a first part of them
pub record ShowsRun (names : List (List ℕ)) (members : List Member) (failed : Bool) (old new : Option (List ℕ)) : Type 0 where
  pub pages : List Page
  pub of_run : ArePagesOfRun names members pages
  pub written : WritesUnless failed old new (flat_map (page_text names) pages)
