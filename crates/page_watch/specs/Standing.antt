-- What a pager stands for. [This profile.]
use Rattle.std.specs.Prelude.{◌≡◌, ◌⊎◌, ℕ, List, [], ◌∷◌}
use Rattle.packet_run.specs.Told.{Member}
use Rattle.display_pages.specs.declared.page.Page.{Page}
use Rattle.display_pages.specs.Pages.{first_page, page}

-- the page of a packet that was told of
abbrev pub page_of : List (List ℕ) → Member → Page
page_of names m = page names m.number m.edition m.memory

-- the page of the last of some packets, or that before the first
abbrev pub last_page : List (List ℕ) → List Member → Page
last_page names [] = first_page names
last_page names (m ∷ []) = page_of names m
last_page names (m ∷ n ∷ members) = last_page names (n ∷ members)

-- pages are those of some of these packets, in their order, each at most once
abbrev pub ArePagesOf : List (List ℕ) → List Page → List Member → Type 0
ArePagesOf names [] members = Unit {0}
ArePagesOf names (p ∷ pages) [] = ⊥
ArePagesOf names (p ∷ pages) (m ∷ members) = ((p ≡ page_of names m) × ArePagesOf names pages members) ⊎ ArePagesOf names (p ∷ pages) members

-- published pages are those of some of these packets, and the last page is that of the last of them
pub record StandsFor (names : List (List ℕ)) (pages : List Page) (last : Page) (members : List Member) : Type 0 where
  pub published : ArePagesOf names pages members
  pub is_last : last ≡ last_page names members
