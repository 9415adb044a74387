-- What a screen is given of pages. [This profile.]
use Rattle.std.specs.Prelude.{◌≡◌, ℕ, Bool, false, List, [], ◌∷◌, Option}
use Rattle.std.specs.List.{AllByRecursion, flat_map}
use Rattle.display_pages.specs.declared.page.Page.{Page}
use Rattle.display_pages.specs.Pages.{page_text}
use Rattle.page_board.specs.Views.{RisesAbove}
use Rattle.tm_io.specs.Octets.{WritesUnless}

-- the number of the last of pages, or this one
abbrev pub last_number : ℕ → List Page → ℕ
last_number number [] = number
last_number number (p ∷ pages) = last_number p.number pages

-- the texts of pages were written, one behind the other, or where that failed a first part of them; of each page this holds, their numbers
-- rise from above one number, and another is that of the last
pub record Shows (names : List (List ℕ)) (Is : Page → Type 0) (failed : Bool) (before now : ℕ) (old new : Option (List ℕ)) : Type 0 where
  pub pages : List Page
  pub each : AllByRecursion Is pages
  pub rises : RisesAbove before pages
  pub last : failed ≡ false → now ≡ last_number before pages
  pub written : WritesUnless failed old new (flat_map (page_text names) pages)
