-- What a pager stands for where one packet more is told.
use Rattle.std.proofs.Common.{◌≡◌, ◌∙◌, ◌⊎◌, ◌<◌, inl, inr, ℕ, List, [], ◌∷◌, ◌++◌, refl, sym, ap, subst, ⊎_elim, arith}
use Rattle.packet_run.specs.Told.{Member}
use Rattle.display_pages.specs.declared.page.Page.{Page}
use Rattle.page_board.specs.Views.{last_behind, no_page, page_shown}
use Rattle.page_watch.specs.declared.pager.Pager.{Pager}
use Rattle.page_watch.specs.Ends.{MayPublish, PagerStandsFor, last_of, names_of, pages_of, shown_of}
use Rattle.page_watch.specs.Standing.{ArePagesOf, StandsFor, last_page, page_of}

last-snoc : (names : List (List ℕ)) (members : List Member) (m : Member) → last_page names (members ++ m ∷ []) ≡ page_of names m
last-snoc names [] m = refl
last-snoc names (n ∷ []) m = refl
last-snoc names (n ∷ k ∷ members) m = last-snoc names (k ∷ members) m

-- pages of some packets are pages of more
pages-more : (names : List (List ℕ)) (pages : List Page) (members : List Member) (m : Member) → ArePagesOf names pages members → ArePagesOf names pages (members ++ m ∷ [])
pages-more names [] members m are = tt
pages-more names (p ∷ pages) [] m are = absurd are
pages-more names (p ∷ pages) (n ∷ members) m are =
    ⊎_elim (λ (t : (p ≡ page_of names n) × ArePagesOf names pages members). inl (t.0, pages-more names pages members m t.1))
    (λ (t : ArePagesOf names (p ∷ pages) members). inr (pages-more names (p ∷ pages) members m t)) are

-- and so with the page of the last of them
pages-snoc : (names : List (List ℕ)) (pages : List Page) (members : List Member) (m : Member) → ArePagesOf names pages members
    → ArePagesOf names (pages ++ page_of names m ∷ []) (members ++ m ∷ [])
pages-snoc names [] [] m are = inl (refl, tt)
pages-snoc names [] (n ∷ members) m are = inr (pages-snoc names [] members m tt)
pages-snoc names (p ∷ pages) [] m are = absurd are
pages-snoc names (p ∷ pages) (n ∷ members) m are =
    ⊎_elim (λ (t : (p ≡ page_of names n) × ArePagesOf names pages members). inl (t.0, pages-snoc names pages members m t.1))
    (λ (t : ArePagesOf names (p ∷ pages) members). inr (pages-snoc names (p ∷ pages) members m t)) are

-- where the last of these pages has a lower number, the page of the last packet may follow
publish-last : (names : List (List ℕ)) (before : Page) (pages : List Page) (members : List Member) → (last_behind before pages).number < (last_page names members).number
    → ArePagesOf names pages members → ArePagesOf names (pages ++ last_page names members ∷ []) members
publish-last names before pages [] low are = absurd (omega (arith, low))
publish-last names before [] (m ∷ []) low are = inl (refl, tt)
publish-last names before (p ∷ []) (m ∷ []) low are =
    ⊎_elim (λ (t : (p ≡ page_of names m) × ArePagesOf names [] []). let same = ap (λ (q : Page). q.number) t.0 in absurd (omega (arith, low, same)))
    (λ (t : ArePagesOf names (p ∷ []) []). absurd t) are
publish-last names before (p ∷ q ∷ pages) (m ∷ []) low are =
    ⊎_elim (λ (t : (p ≡ page_of names m) × ArePagesOf names (q ∷ pages) []). absurd t.1) (λ (t : ArePagesOf names (p ∷ q ∷ pages) []). absurd t) are
publish-last names before [] (m ∷ n ∷ members) low are = inr (publish-last names before [] (n ∷ members) low tt)
publish-last names before (p ∷ pages) (m ∷ n ∷ members) low are =
    ⊎_elim (λ (t : (p ≡ page_of names m) × ArePagesOf names pages (n ∷ members)). inl (t.0, publish-last names p pages (n ∷ members) low t.1))
    (λ (t : ArePagesOf names (p ∷ pages) (n ∷ members)). inr (publish-last names before (p ∷ pages) (n ∷ members) low t)) are

-- and the packets that are stood for stay
pub stands-published : (names : List (List ℕ)) (pages pages' : List Page) (last : Page) → pages' ≡ pages ++ last ∷ [] → (page_shown pages).number < last.number
    → (members : List Member) → StandsFor names pages last members → StandsFor names pages' last members
stands-published names pages pages' last is low members h =
    let number = ap (λ (p : Page). p.number) h.is_last in record {
      published = subst (λ (l : List Page). ArePagesOf names l members) (sym (is ∙ ap (λ (p : Page). pages ++ p ∷ []) h.is_last))
          (publish-last names no_page pages members (omega (arith, low, number)) h.published);
      is_last = h.is_last;
    }

-- a packet more was told: its page is the last, and was published or not
pub stands-on : (names : List (List ℕ)) (pages pages' : List Page) (last last' : Page) (m : Member) → last' ≡ page_of names m
    → (pages' ≡ pages) ⊎ (pages' ≡ pages ++ last' ∷ []) → (members : List Member) → StandsFor names pages last members → StandsFor names pages' last' (members ++ m ∷ [])
stands-on names pages pages' last last' m is either members h = record {
  published =
      ⊎_elim (λ (e : pages' ≡ pages). subst (λ (l : List Page). ArePagesOf names l (members ++ m ∷ [])) (sym e) (pages-more names pages members m h.published))
      (λ (e : pages' ≡ pages ++ last' ∷ []). subst (λ (l : List Page). ArePagesOf names l (members ++ m ∷ [])) (sym (e ∙ ap (λ (p : Page). pages ++ p ∷ []) is)) (pages-snoc names pages members m h.published))
      either;
  is_last = is ∙ sym (last-snoc names members m);
}

-- and so of a pager
pub pager-stands-on : (old new : Pager) (m : Member) → names_of new ≡ names_of old → last_of new ≡ page_of (names_of old) m → MayPublish old new (last_of new)
    → (members : List Member) → PagerStandsFor old members → PagerStandsFor new (members ++ m ∷ [])
pager-stands-on old new m names last pages members h =
    subst (λ (ns : List (List ℕ)). StandsFor ns (pages_of new) (last_of new) (members ++ m ∷ [])) (sym names)
    (stands-on (names_of old) (pages_of old) (pages_of new) (last_of old) (last_of new) m last
    (⊎_elim (λ (t : (pages_of new ≡ pages_of old) × (shown_of new ≡ shown_of old)). inl t.0)
    (λ (t : (pages_of new ≡ pages_of old ++ last_of new ∷ []) × (shown_of old < (last_of new).number) × (shown_of new ≡ (last_of new).number)). inr t.0) pages) members h)
