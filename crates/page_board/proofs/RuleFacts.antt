-- A step that publishes, looks, tells or learns keeps the rule of a board.
use Rattle.std.proofs.Common.{◌≡◌, ℕ, zero, suc, ◌<◌, ◌≤◌, ◌≢◌, Bool, true, false, List, [], ◌∷◌, ◌++◌, set, refl, sym, ap, subst, ◌∙◌, ⊎_elim, le_refl, arith}
use Rattle.std.specs.List.{AllByRecursion}
use Rattle.std.proofs.lemmas.Bool.{false≢true}
use Rattle.std.proofs.lemmas.List.{append-nil, append_assoc}
use mathlib.Core.Option.{some, some-injective, some-ne-none}
use lib.ListN.{get_elem?}
use Rattle.crossbeam_utils.specs.Register.{Turns, Forks, Merges}
use Rattle.atomic_table.proofs.Lists.{at_set, at_snoc, set_again}
use Rattle.display_pages.specs.declared.page.Page.{Page}
use Rattle.page_board.specs.declared.view.BoardView.{BoardView}
use Rattle.page_board.specs.Sheets.{page_in}
use Rattle.page_board.specs.Views.{no_page, last_behind, page_shown, BeginsWith, RisesAbove, IsShownBy, publisher, onlooker, Knows, Kept, Publishes, Looks, told_of}

-- ---- first parts of lists

pub begins-all : (xs : List Page) → BeginsWith xs xs
begins-all xs = ([], sym (append-nil xs))

pub begins-trans : (xs ys zs : List Page) → BeginsWith xs ys → BeginsWith ys zs → BeginsWith xs zs
begins-trans xs ys zs (more, e) (rest, f) = (rest ++ more, e ∙ (ap (λ (l : List Page). l ++ more) f ∙ append_assoc zs rest more))

pub begins-snoc : (xs : List Page) (p : Page) → BeginsWith (xs ++ p ∷ []) xs
begins-snoc xs p = (p ∷ [], refl)

all-longer : (xs ys : List Page) (ls : List (List Page)) → BeginsWith xs ys → AllByRecursion (BeginsWith ys) ls → AllByRecursion (BeginsWith xs) ls
all-longer xs ys [] s all = tt
all-longer xs ys (l ∷ ls) s all = (begins-trans xs ys l s all.0, all-longer xs ys ls s all.1)

shown-longer : (xs ys : List Page) (p : Page) → BeginsWith xs ys → IsShownBy ys p → IsShownBy xs p
shown-longer xs ys p s t = (t.0, begins-trans xs ys t.0 s t.1, t.2)

all-shown-longer : (xs ys ps : List Page) → BeginsWith xs ys → AllByRecursion (IsShownBy ys) ps → AllByRecursion (IsShownBy xs) ps
all-shown-longer xs ys [] s all = tt
all-shown-longer xs ys (p ∷ ps) s all = (shown-longer xs ys p s all.0, all-shown-longer xs ys ps s all.1)

all-snoc : (xs ps : List Page) (p : Page) → AllByRecursion (IsShownBy xs) ps → IsShownBy xs p → AllByRecursion (IsShownBy xs) (ps ++ p ∷ [])
all-snoc xs [] p all one = (one, tt)
all-snoc xs (q ∷ ps) p all one = (all.0, all-snoc xs ps p all.1 one)

-- ---- numbers that rise

pub last-snoc : (p : Page) (xs : List Page) (q : Page) → last_behind p (xs ++ q ∷ []) ≡ q
last-snoc p [] q = refl
last-snoc p (x ∷ xs) q = last-snoc x xs q

rises-snoc : (p : Page) (xs : List Page) (q : Page) → RisesAbove p.number xs → (last_behind p xs).number < q.number → RisesAbove p.number (xs ++ q ∷ [])
rises-snoc p [] q rises low = (low, tt)
rises-snoc p (x ∷ xs) q rises low = (rises.0, rises-snoc x xs q rises.1 low)

last-not-below : (p : Page) (xs : List Page) → RisesAbove p.number xs → p.number ≤ (last_behind p xs).number
last-not-below p [] rises = le_refl p.number
last-not-below p (x ∷ xs) rises = let a = rises.0 in let b = last-not-below x xs rises.1 in omega arith

no-more : (p : Page) (front rest : List Page) → RisesAbove p.number (front ++ rest) → (last_behind p (front ++ rest)).number ≡ (last_behind p front).number → rest ≡ []
no-more p [] [] rises e = refl
no-more p [] (q ∷ qs) rises e = let a = rises.0 in let b = last-not-below q qs rises.1 in absurd (omega arith)
no-more p (f ∷ fs) rest rises e = no-more f fs rest rises.1 e

-- pages that begin with others and show the same number are those
pub same-pages : (pages front : List Page) → RisesAbove 0 pages → BeginsWith pages front → (page_shown pages).number ≡ (page_shown front).number → pages ≡ front
same-pages pages front rises (rest, e) same =
    let none : rest ≡ [] = no-more no_page front rest (subst (λ (l : List Page). RisesAbove 0 l) e rises)
    (ap (λ (l : List Page). (page_shown l).number) (sym e) ∙ same) in
    e ∙ (ap (λ (l : List Page). front ++ l) none ∙ append-nil front)

-- ---- what an end knows

-- one that has seen no more than a first part
knows-front : (pages front : List Page) → BeginsWith pages front → Knows pages (onlooker front)
knows-front pages front s = record { seen = s; all = λ is. absurd (false≢true is); told = tt; got = tt }

-- an onlooker's knowledge where more was published
knows-longer : (pages more : List Page) (v : BoardView) → BeginsWith more pages → v.publishes ≡ false → Knows pages v → Knows more v
knows-longer pages more v s looks k = record {
  seen = begins-trans more pages v.seen s k.seen;
  all = λ is. absurd (false≢true (sym looks ∙ is));
  told = all-longer more pages v.told s k.told;
  got = k.got;
}

-- ---- which end publishes

-- each seat that publishes did so before
abbrev Stems : List BoardView → List BoardView → Type 0
Stems after before = (seat : ℕ) (v : BoardView) → get_elem? after seat ≡ some v → v.publishes ≡ true → (u : BoardView) × (get_elem? before seat ≡ some u) × (u.publishes ≡ true)

-- at most one seat publishes
abbrev One : List BoardView → Type 0
One views = (seat other : ℕ) (v w : BoardView) → get_elem? views seat ≡ some v → get_elem? views other ≡ some w
    → v.publishes ≡ true → w.publishes ≡ true → seat ≡ other

one-stems : (after before : List BoardView) → Stems after before → One before → One after
one-stems after before stems one seat other v w at there is also =
    let a = stems seat v at is in let b = stems other w there also in one seat other a.0 b.0 a.1 b.1 a.2 b.2

stems-set : (views : List BoardView) (seat : ℕ) (v w : BoardView) → get_elem? views seat ≡ some v → (w.publishes ≡ true → v.publishes ≡ true) → Stems (set views seat w) views
stems-set views seat v w at keeps j u there is =
    ⊎_elim (λ (t : (j ≡ seat) × (w ≡ u)). (v, subst (λ (k : ℕ). get_elem? views k ≡ some v) (sym t.0) at, keeps (ap (λ (z : BoardView). z.publishes) t.1 ∙ is)))
    (λ (t : (j ≢ seat) × (get_elem? views j ≡ some u)). (u, t.1, is)) (at_set views seat j w u there)

stems-snoc : (views : List BoardView) (pages : List Page) → Stems (views ++ onlooker pages ∷ []) views
stems-snoc views pages j u there is =
    ⊎_elim (λ was. (u, was, is)) (λ (same : onlooker pages ≡ u). absurd (false≢true (ap (λ (z : BoardView). z.publishes) same ∙ is))) (at_snoc views (onlooker pages) u j there)

-- each view is known where one of them is set
each-set : (pages : List Page) (views : List BoardView) (seat : ℕ) (w : BoardView) → ((j : ℕ) (u : BoardView) → j ≢ seat → get_elem? views j ≡ some u → Knows pages u) → Knows pages w
    → (j : ℕ) (u : BoardView) → get_elem? (set views seat w) j ≡ some u → Knows pages u
each-set pages views seat w others own j u at =
    ⊎_elim (λ (t : (j ≡ seat) × (w ≡ u)). subst (λ (z : BoardView). Knows pages z) t.1 own) (λ (t : (j ≢ seat) × (get_elem? views j ≡ some u)). others j u t.0 t.1) (at_set views seat j w u at)

-- ---- the steps

-- the rule holds where all begins
pub begins : (page : Page) → page ≡ no_page → Kept page (publisher ∷ [])
begins page is = record { pages = []; shows = is; rises = tt; each = one-view; one = one-seat }
  where
    one-view : (seat : ℕ) (v : BoardView) → get_elem? (publisher ∷ []) seat ≡ some v → Knows [] v
    one-view zero v at = subst (λ (u : BoardView). Knows [] u) (some-injective publisher v at) (record { seen = begins-all []; all = λ _. refl; told = tt; got = tt })
    one-view (suc seat) v at = absurd (some-ne-none v (sym at))

    one-seat : One (publisher ∷ [])
    one-seat zero zero v w at there is also = refl
    one-seat zero (suc other) v w at there is also = absurd (some-ne-none w (sym there))
    one-seat (suc seat) other v w at there is also = absurd (some-ne-none v (sym at))

-- the view after a look at all pages
abbrev looked : BoardView → List Page → Page → BoardView
looked v pages page = record v { seen = pages; got = v.got ++ page ∷ [] }

pub looks : (seat : ℕ) (v : BoardView) → Turns (λ (sheet : List ℕ). Kept (page_in sheet)) seat v (λ x. x) (λ v x y w. Looks v (page_in x) w)
looks seat v sheet views h at =
    let k = h.each seat v at in
    let page : Page = page_in sheet in
    let got : AllByRecursion (IsShownBy h.pages) (v.got ++ page ∷ []) =
    all-snoc h.pages v.got page (all-shown-longer h.pages v.seen v.got k.seen k.got) (h.pages, begins-all h.pages, h.shows) in (
      looked v h.pages page,
      record {
        pages = h.pages;
        shows = h.shows;
        rises = h.rises;
        each = each-set h.pages views seat (looked v h.pages page) (λ j u apart there. h.each j u there)
            (record { seen = begins-all h.pages; all = λ _. refl; told = k.told; got = got });
        one = one-stems (set views seat (looked v h.pages page)) views (stems-set views seat v (looked v h.pages page) at (λ is. is)) h.one;
      },
      record { later = k.seen; told = k.told; same = refl; got = refl; shows = h.shows; rises = h.rises; each = got },
    )

-- the view after a page was published
abbrev published : BoardView → Page → BoardView
published v page = record v { seen = v.seen ++ page ∷ [] }

-- an end beside the one that publishes, where more was published
others-know : (seat : ℕ) (pages more : List Page) (views : List BoardView) (v u : BoardView) (j : ℕ) → BeginsWith more pages → One views
    → ((j : ℕ) (u : BoardView) → get_elem? views j ≡ some u → Knows pages u) → v.publishes ≡ true → get_elem? views seat ≡ some v → j ≢ seat
    → get_elem? views j ≡ some u → Knows more u
others-know seat pages more views v u j on one each is at apart there = go u.publishes refl
  where
    go : (b : Bool) → u.publishes ≡ b → Knows more u
    go true also = absurd (apart (one j seat u v there at also is))
    go false looks_on = knows-longer pages more u on looks_on (each j u there)

pub publishes : (seat : ℕ) (v : BoardView) (next : List ℕ) → v.publishes ≡ true → (page_shown v.seen).number < (page_in next).number
    → Turns (λ (sheet : List ℕ). Kept (page_in sheet)) seat v (λ _. next) (λ v x y w. Publishes v (page_in y) w)
publishes seat v next is later sheet views h at =
    let k = h.each seat v at in
    let page : Page = page_in next in
    let all : v.seen ≡ h.pages = k.all is in
    let more : List Page = v.seen ++ page ∷ [] in
    let on : BeginsWith more h.pages = subst (λ (l : List Page). BeginsWith more l) all (begins-snoc v.seen page) in
    let others : (j : ℕ) (u : BoardView) → j ≢ seat → get_elem? views j ≡ some u → Knows more u = λ j u apart there. others-know seat h.pages more views v u j on h.one h.each is at apart there in (
      published v page,
      record {
        pages = more;
        shows = sym (last-snoc no_page v.seen page);
        rises = rises-snoc no_page v.seen page (subst (λ (l : List Page). RisesAbove 0 l) (sym all) h.rises) later;
        each = each-set more views seat (published v page) others
            (record { seen = begins-all more; all = λ _. refl; told = all-longer more h.pages v.told on k.told; got = all-shown-longer more v.seen v.got (begins-snoc v.seen page) k.got });
        one = one-stems (set views seat (published v page)) views (stems-set views seat v (published v page) at (λ is. is)) h.one;
      },
      refl,
    )

pub forks : (seat : ℕ) (v : BoardView) → Forks (λ (sheet : List ℕ). Kept (page_in sheet)) seat v v (onlooker v.seen)
forks seat v sheet views h at = record {
  pages = h.pages;
  shows = h.shows;
  rises = h.rises;
  each = λ j u there. ⊎_elim (λ was. h.each j u (subst (λ (l : List BoardView). get_elem? l j ≡ some u) (set_again views seat v at) was))
      (λ (same : onlooker v.seen ≡ u). subst (λ (z : BoardView). Knows h.pages z) same (knows-front h.pages v.seen (h.each seat v at).seen))
      (at_snoc (set views seat v) (onlooker v.seen) u j there);
  one = one-stems (set views seat v ++ onlooker v.seen ∷ []) (set views seat v) (stems-snoc (set views seat v) v.seen)
      (one-stems (set views seat v) views (stems-set views seat v v at (λ is. is)) h.one);
}

pub merges : (seat : ℕ) (v : BoardView) (other : ℕ) (w : BoardView) → Merges (λ (sheet : List ℕ). Kept (page_in sheet)) seat v other w (told_of v w) (onlooker [])
merges seat v other w sheet views h at apart there =
    let k = h.each seat v at in
    let one : Knows h.pages w = ⊎_elim (λ (t : (other ≡ seat) × (told_of v w ≡ w)). absurd (apart t.0))
    (λ (t : (other ≢ seat) × (get_elem? views other ≡ some w)). h.each other w t.1) (at_set views seat other (told_of v w) w there) in
    let knows : Knows h.pages (told_of v w) = record { seen = k.seen; all = k.all; told = (one.seen, k.told); got = k.got } in
    let first : List BoardView = set views seat (told_of v w) in record {
      pages = h.pages;
      shows = h.shows;
      rises = h.rises;
      each = each-set h.pages first other (onlooker []) (λ j u out there. each-set h.pages views seat (told_of v w) (λ i z away here. h.each i z here) knows j u there)
          (knows-front h.pages [] (h.pages, refl));
      one = one-stems (set first other (onlooker [])) first (stems-set first other w (onlooker []) there (λ is. absurd (false≢true is)))
          (one-stems first views (stems-set views seat v (told_of v w) at (λ is. is)) h.one);
    }

-- what an end has seen is what it was told of last, where both show the same number
pub seen-is-told : (v : BoardView) (pages : List Page) (told : List (List Page)) → RisesAbove 0 v.seen → AllByRecursion (BeginsWith v.seen) v.told
    → v.told ≡ pages ∷ told → (page_shown v.seen).number ≡ (page_shown pages).number → v.seen ≡ pages
seen-is-told v pages told rises all e same =
    same-pages v.seen pages rises (subst (λ (l : List (List Page)). AllByRecursion (BeginsWith v.seen) l) e all).0 same
