-- Pages that are written one after the other.
use Rattle.std.proofs.Common.{◌≡◌, ◌∙◌, ℕ, ◌<◌, Bool, true, false, List, [], ◌∷◌, ◌++◌, Option, Result, refl, sym, ap, subst, append_assoc, append-nil, drop, length, take, take-append-drop}
use Rattle.std.proofs.Math.Seq.{take-append_seam}
use Rattle.std.proofs.KnownBytes.{Appends-nil, Appends-trans}
use Rattle.std.proofs.lemmas.Bool.{false≢true}
use Rattle.std.proofs.lemmas.Grind.{flat_map-append}
use Rattle.std.specs.Io.KnownBytes.{Appends}
use Rattle.std.specs.List.{AllByRecursion, flat_map}
use Rattle.std.specs.Result.{IsErr, is_err}
use Rattle.display_pages.specs.declared.page.Page.{Page}
use Rattle.display_pages.specs.Pages.{page_text}
use Rattle.page_board.specs.Views.{BeginsWith, IsShownBy, RisesAbove, page_shown}
use Rattle.tm_io.specs.Octets.{AppendsPrefix, WritesUnless}
use Rattle.page_screen.specs.Shows.{Shows, last_number}

-- nothing is written
pub shows-none : (names : List (List ℕ)) (Is : Page → Type 0) (n : ℕ) (o : Option (List ℕ)) → Shows names Is false n n o o
shows-none names Is n o = record { pages = []; each = tt; rises = tt; last = λ _. refl; written = Appends-nil o }

-- one page is written, or a first part of it
pub shows-one : (names : List (List ℕ)) (Is : Page → Type 0) (failed : Bool) (page : Page) (before now : ℕ) (old new : Option (List ℕ)) → Is page → before < page.number
    → (failed ≡ false → now ≡ page.number) → WritesUnless failed old new (page_text names page) → Shows names Is failed before now old new
shows-one names Is failed page before now old new is above number wrote = record {
  pages = page ∷ [];
  each = (is, tt);
  rises = (above, tt);
  last = number;
  written = subst (WritesUnless failed old new) (sym (append-nil (page_text names page))) wrote;
}

pub all-both : (Is : Page → Type 0) (xs ys : List Page) → AllByRecursion Is xs → AllByRecursion Is ys → AllByRecursion Is (xs ++ ys)
all-both Is [] ys all more = more
all-both Is (x ∷ xs) ys all more = (all.0, all-both Is xs ys all.1 more)

pub rises-both : (low : ℕ) (xs ys : List Page) → RisesAbove low xs → RisesAbove (last_number low xs) ys → RisesAbove low (xs ++ ys)
rises-both low [] ys rise more = more
rises-both low (x ∷ xs) ys rise more = (rise.0, rises-both x.number xs ys rise.1 more)

last-both : (low : ℕ) (xs ys : List Page) → last_number low (xs ++ ys) ≡ last_number (last_number low xs) ys
last-both low [] ys = refl
last-both low (x ∷ xs) ys = last-both x.number xs ys

all-so : (Is So : Page → Type 0) → ((p : Page) → Is p → So p) → (xs : List Page) → AllByRecursion Is xs → AllByRecursion So xs
all-so Is So so [] all = tt
all-so Is So so (x ∷ xs) all = (so x all.0, all-so Is So so xs all.1)

-- what holds of pages holds of them by what follows from it
pub shows-so : (names : List (List ℕ)) (Is So : Page → Type 0) (failed : Bool) (before now : ℕ) (old new : Option (List ℕ)) → ((p : Page) → Is p → So p)
    → Shows names Is failed before now old new → Shows names So failed before now old new
shows-so names Is So failed before now old new so s = record { pages = s.pages; each = all-so Is So so s.pages s.each; rises = s.rises; last = s.last; written = s.written }

-- a first part of what follows a text that was written is one of both
part-behind : (one two : List ℕ) (old mid new : Option (List ℕ)) → Appends old mid one → AppendsPrefix mid new two → AppendsPrefix old new (one ++ two)
part-behind one two old mid new went (count, wrote) =
    let front = one ++ take count two in
    let whole : front ++ drop count two ≡ one ++ two = append_assoc one (take count two) (drop count two) ∙ ap (λ (l : List ℕ). one ++ l) (take-append-drop count two) in
    (length front, subst (Appends old new) (sym (ap (take (length front)) (sym whole) ∙ take-append_seam front (drop count two))) (Appends-trans old mid new one (take count two) went wrote))

writes-both : (failed : Bool) (one two : List ℕ) (old mid new : Option (List ℕ)) → Appends old mid one → WritesUnless failed mid new two → WritesUnless failed old new (one ++ two)
writes-both false one two old mid new wrote more = Appends-trans old mid new one two wrote more
writes-both true one two old mid new wrote more = part-behind one two old mid new wrote more

-- pages are written behind others
pub shows-both : (names : List (List ℕ)) (Is : Page → Type 0) (failed : Bool) (before middle now : ℕ) (old mid new : Option (List ℕ))
    → Shows names Is false before middle old mid → Shows names Is failed middle now mid new → Shows names Is failed before now old new
shows-both names Is failed before middle now old mid new s t =
    let is = s.last refl in record {
      pages = s.pages ++ t.pages;
      each = all-both Is s.pages t.pages s.each t.each;
      rises = rises-both before s.pages t.pages s.rises (subst (λ (n : ℕ). RisesAbove n t.pages) is t.rises);
      last = λ ok. t.last ok ∙ (ap (λ (n : ℕ). last_number n t.pages) is ∙ sym (last-both before s.pages t.pages));
      written =
          subst (WritesUnless failed old new) (sym (flat_map-append (page_text names) s.pages t.pages))
          (writes-both failed (flat_map (page_text names) s.pages) (flat_map (page_text names) t.pages) old mid new s.written t.written);
    }

-- what a first part of pages shows, more pages show too
pub shown-by-more : (more seen : List Page) → BeginsWith more seen → (p : Page) → IsShownBy seen p → IsShownBy more p
shown-by-more more seen begins p is =
    (is.0, (is.1.0 ++ begins.0, begins.1 ∙ (ap (λ (l : List Page). l ++ begins.0) is.1.1 ∙ append_assoc is.0 is.1.0 begins.0)), is.2)

-- the page that a look gave is shown by what was then seen
pub shown-by-all : (seen : List Page) (page : Page) → page ≡ page_shown seen → IsShownBy seen page
shown-by-all seen page is = (seen, ([], sym (append-nil seen)), is)

-- an error that is handed on
pub shows-err : {T E : Type 0} (r : Result T E) (names : List (List ℕ)) (Is : Page → Type 0) (before now : ℕ) (old new : Option (List ℕ)) → IsErr r
    → Shows names Is true before now old new → Shows names Is (is_err r) before now old new
shows-err r names Is before now old new failed s = subst (λ (b : Bool). Shows names Is b before now old new) (sym failed) s

-- a page that could not be written whole
pub shows-part : (names : List (List ℕ)) (page : Page) (before : ℕ) (old new : Option (List ℕ)) → before < page.number
    → AppendsPrefix old new (page_text names page) → Shows names (λ (p : Page). p ≡ page) true before before old new
shows-part names page before old new above part =
    shows-one names (λ (p : Page). p ≡ page) true page before before old new refl above (λ (ok : true ≡ false). absurd (false≢true (sym ok))) part

-- pages are written by a display behind those that it wrote before
pub shows-on : (names same : List (List ℕ)) (seen more : List Page) (failed : Bool) (before middle now : ℕ) (old mid new : Option (List ℕ)) → same ≡ names → BeginsWith more seen
    → Shows names (IsShownBy seen) false before middle old mid → Shows same (IsShownBy more) failed middle now mid new → Shows names (IsShownBy more) failed before now old new
shows-on names same seen more failed before middle now old mid new is begins s t =
    shows-both names (IsShownBy more) failed before middle now old mid new
    (shows-so names (IsShownBy seen) (IsShownBy more) false before middle old mid (shown-by-more more seen begins) s)
    (subst (λ (ns : List (List ℕ)). Shows ns (IsShownBy more) failed middle now mid new) is t)
