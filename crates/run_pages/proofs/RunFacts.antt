-- The pages that a screen was given of a run are those of its packets, and the last is that of the last.
use Rattle.std.proofs.Common.{◌≡◌, ◌∙◌, ◌⊎◌, ◌≤◌, ◌<◌, ℕ, Bool, true, false, inl, inr, List, [], ◌∷◌, ◌++◌, Option, refl, sym, ap, subst, ⊎_elim, arith, append-nil, append_assoc, drop, length, take, take-append-drop, max}
use Rattle.std.proofs.Math.Seq.{take-append_seam}
use Rattle.std.proofs.lemmas.Bool.{cases_Bool, ltb-false, ltb-true}
use Rattle.std.proofs.lemmas.Grind.{flat_map-append}
use Rattle.std.specs.Io.KnownBytes.{Appends}
use Rattle.std.specs.List.{AllByRecursion, flat_map}
use Rattle.std.specs.Prelude.{nat_lt}
use Rattle.display_pages.specs.declared.page.Page.{Page}
use Rattle.display_pages.specs.Pages.{first_page, page_text}
use Rattle.packet_run.specs.Told.{Member}
use Rattle.page_board.specs.Views.{BeginsWith, IsShownBy, RisesAbove, last_behind, no_page, page_shown}
use Rattle.page_screen.proofs.ShowFacts.{all-both, rises-both, shown-by-more, shows-both, shows-so}
use Rattle.page_screen.specs.Shows.{Shows, last_number}
use Rattle.page_watch.specs.Standing.{ArePagesOf, StandsFor, last_page, page_of}
use Rattle.tm_io.specs.Octets.{AppendsPrefix, WritesUnless}
use Rattle.run_pages.specs.Shown.{ArePagesOfRun, IsOfOne, NumbersRise, ShowsRun}

module _ (names : List (List ℕ)) where
  -- a page is one of these packets if it has a number
  abbrev pub Of : List Member → Page → Type 0
  Of members p = 0 < p.number → IsOfOne names members p

  more-of : (m : Member) (members : List Member) (pages : List Page) → AllByRecursion (IsOfOne names members) pages → AllByRecursion (IsOfOne names (m ∷ members)) pages
  more-of m members [] all = tt
  more-of m members (p ∷ pages) all = (inr all.0, more-of m members pages all.1)

  -- each published page is that of a packet
  published-of : (pages : List Page) (members : List Member) → ArePagesOf names pages members → AllByRecursion (IsOfOne names members) pages
  published-of [] members are = tt
  published-of (p ∷ pages) [] are = absurd are
  published-of (p ∷ pages) (m ∷ members) are =
      ⊎_elim (λ (t : (p ≡ page_of names m) × ArePagesOf names pages members). (inl t.0, more-of m members pages (published-of pages members t.1)))
      (λ (t : ArePagesOf names (p ∷ pages) members). more-of m members (p ∷ pages) (published-of (p ∷ pages) members t)) are

  all-left : (Is : Page → Type 0) (front rest : List Page) → AllByRecursion Is (front ++ rest) → AllByRecursion Is front
  all-left Is [] rest all = tt
  all-left Is (p ∷ front) rest all = (all.0, all-left Is front rest all.1)

  all-so : (Is So : Page → Type 0) → ((p : Page) → Is p → So p) → (pages : List Page) → AllByRecursion Is pages → AllByRecursion So pages
  all-so Is So so [] all = tt
  all-so Is So so (p ∷ pages) all = (so p all.0, all-so Is So so pages all.1)

  last-has : (Is : Page → Type 0) (start : Page) (pages : List Page) → Is start → AllByRecursion Is pages → Is (last_behind start pages)
  last-has Is start [] is all = is
  last-has Is start (p ∷ pages) is all = last-has Is p pages all.0 all.1

  last-number : (start : Page) (pages : List Page) → (last_behind start pages).number ≡ last_number start.number pages
  last-number start [] = refl
  last-number start (p ∷ pages) = last-number p pages

  -- what published pages show is the page of a packet, if it has a number
  shown-of : (noted : List Page) (members : List Member) → ArePagesOf names noted members → (p : Page) → IsShownBy noted p → Of members p
  shown-of noted members are p (front, (rest, begins), is) =
      let all : AllByRecursion (IsOfOne names members) front = all-left (IsOfOne names members) front rest (subst (AllByRecursion (IsOfOne names members)) begins (published-of noted members are)) in
      subst (Of members) (sym is)
      (last-has (Of members) no_page front (λ (none : 0 < 0). absurd (omega (arith, none))) (all-so (IsOfOne names members) (Of members) (λ (q : Page) (of : IsOfOne names members q) (some : 0 < q.number). of) front all))

  -- the page of the last packet is that of a packet, if it has a number
  last-of : (members : List Member) → Of members (last_page names members)
  last-of [] none = absurd (omega (arith, none))
  last-of (m ∷ []) some = inl refl
  last-of (m ∷ n ∷ members) some = inr (last-of (n ∷ members) some)

  -- the last packet has the greatest number
  last-least : (low : ℕ) (m : Member) (members : List Member) → NumbersRise low (m ∷ members) → m.number ≤ (last_page names (m ∷ members)).number
  last-least low m [] rise = omega arith
  last-least low m (n ∷ members) rise =
      let above : m.number < n.number = rise.1.0 in let more : n.number ≤ (last_page names (n ∷ members)).number = last-least m.number n members rise.1 in omega (arith, above, more)

  last-most : (low : ℕ) (members : List Member) → NumbersRise low members → (p : Page) → IsOfOne names members p → p.number ≤ (last_page names members).number
  last-most low [] rise p of = absurd of
  last-most low (m ∷ []) rise p of = ⊎_elim (λ (e : p ≡ page_of names m). let same : p.number ≡ m.number = ap (λ (q : Page). q.number) e in omega (arith, same)) (λ (e : ⊥). absurd e) of
  last-most low (m ∷ n ∷ members) rise p of =
      ⊎_elim (λ (e : p ≡ page_of names m). let same : p.number ≡ m.number = ap (λ (q : Page). q.number) e in let least = last-least low m (n ∷ members) rise in omega (arith, same, least))
      (λ (t : IsOfOne names (n ∷ members) p). last-most m.number (n ∷ members) rise.1 p t) of

  -- a page with the number of the last packet is the page of that
  same-last : (low : ℕ) (members : List Member) → NumbersRise low members → (p : Page) → IsOfOne names members p → p.number ≡ (last_page names members).number → p ≡ last_page names members
  same-last low [] rise p of number = absurd of
  same-last low (m ∷ []) rise p of number = ⊎_elim (λ (e : p ≡ page_of names m). e) (λ (e : ⊥). absurd e) of
  same-last low (m ∷ n ∷ members) rise p of number =
      ⊎_elim (λ (e : p ≡ page_of names m).
      let same : p.number ≡ m.number = ap (λ (q : Page). q.number) e in let above : m.number < n.number = rise.1.0 in let least = last-least m.number n members rise.1 in absurd (omega (arith, same, above, least, number)))
      (λ (t : IsOfOne names (n ∷ members) p). same-last m.number (n ∷ members) rise.1 p t number) of

  -- pages whose numbers rise have numbers
  with-numbers : (low : ℕ) (members : List Member) (pages : List Page) → RisesAbove low pages → AllByRecursion (Of members) pages → AllByRecursion (IsOfOne names members) pages
  with-numbers low members [] rise all = tt
  with-numbers low members (p ∷ pages) rise all = (all.0 (let above : low < p.number = rise.0 in omega (arith, above)), with-numbers p.number members pages rise.1 all.1)

  -- none has a greater number than the last packet
  at-most : (members : List Member) → NumbersRise 0 members → (low : ℕ) → low ≤ (last_page names members).number → (pages : List Page) → AllByRecursion (IsOfOne names members) pages
      → last_number low pages ≤ (last_page names members).number
  at-most members rise low few [] all = few
  at-most members rise low few (p ∷ pages) all = at-most members rise p.number (last-most 0 members rise p all.0) pages all.1

  -- the last page is that of the last packet where it has its number
  last-same : (members : List Member) → NumbersRise 0 members → (pages : List Page) → AllByRecursion (IsOfOne names members) pages
      → last_number 0 pages ≡ (last_page names members).number → last_behind (first_page names) pages ≡ last_page names members
  last-same [] rise [] all number = refl
  last-same (m ∷ members) rise [] all number =
      let least = last-least 0 m members rise in let above : 0 < m.number = rise.0 in absurd (omega (arith, least, above, number))
  last-same members rise (p ∷ pages) all number =
      same-last 0 members rise (last_behind p pages) (last-has (IsOfOne names members) p pages all.0 all.1) (last-number p pages ∙ number)

  last-snoc : (start : Page) (pages : List Page) (p : Page) → last_behind start (pages ++ p ∷ []) ≡ p
  last-snoc start [] p = refl
  last-snoc start (q ∷ pages) p = last-snoc q pages p

  -- a first part of a text is one of a longer text
  part-of-more : (old new : Option (List ℕ)) (one two : List ℕ) → AppendsPrefix old new one → AppendsPrefix old new (one ++ two)
  part-of-more old new one two (count, wrote) =
      let front = take count one in
      let whole : front ++ (drop count one ++ two) ≡ one ++ two = sym (append_assoc front (drop count one) two) ∙ ap (λ (l : List ℕ). l ++ two) (take-append-drop count one) in
      (length front, subst (Appends old new) (sym (ap (take (length front)) (sym whole) ∙ take-append_seam front (drop count one ++ two))) wrote)

  part-by : (failed : Bool) (old new : Option (List ℕ)) (one : List ℕ) → failed ≡ true → WritesUnless failed old new one → AppendsPrefix old new one
  part-by true old new one is part = part
  part-by false old new one is wrote = absurd (let bad : false ≡ true = is in cc bad)

  -- the pages that were written are those of the run, or where the screen failed the first of them
  pub of-run : (members : List Member) (failed : Bool) (pages : List Page) (old new : Option (List ℕ)) → NumbersRise 0 members → RisesAbove 0 pages
      → AllByRecursion (IsOfOne names members) pages → (failed ≡ false → last_number 0 pages ≡ (last_page names members).number)
      → WritesUnless failed old new (flat_map (page_text names) pages) → ShowsRun names members failed old new
  of-run members failed pages old new numbers rise each last wrote = elim (cases_Bool (nat_lt (last_number 0 pages) (last_page names members).number)) [
    | inl fewer ↦
        let less : last_number 0 pages < (last_page names members).number = ltb-true (last_number 0 pages) (last_page names members).number fewer in
        let end : Page = last_page names members in
        let text : List ℕ = flat_map (page_text names) pages in
        elim (cases_Bool failed) [
          | inl is ↦ record {
            pages = pages ++ end ∷ [];
            of_run = record {
              each = all-both (IsOfOne names members) pages (end ∷ []) each (last-of members (omega (arith, less)), tt);
              rises = rises-both 0 pages (end ∷ []) rise (less, tt);
              last = last-snoc (first_page names) pages end;
            };
            written =
                subst (λ (b : Bool). WritesUnless b old new (flat_map (page_text names) (pages ++ end ∷ []))) (sym is)
                (subst (AppendsPrefix old new) (sym (flat_map-append (page_text names) pages (end ∷ [])))
                (part-of-more old new text (flat_map (page_text names) (end ∷ [])) (part-by failed old new text is wrote)));
          }
          | inr is ↦ absurd (let same = last is in omega (arith, same, less))
        ]
    | inr more ↦
        let least : (last_page names members).number ≤ last_number 0 pages = ltb-false (last_number 0 pages) (last_page names members).number more in
        let most : last_number 0 pages ≤ (last_page names members).number = at-most members numbers 0 (omega arith) pages each in
        record {
          pages = pages;
          of_run = record { each = each; rises = rise; last = last-same members numbers pages each (omega (arith, least, most)) };
          written = wrote;
        }
  ]

-- what a display wrote while a run went on and behind it, which had then seen all that was published
module _ (names : List (List ℕ)) (members : List Member) (noted seen : List Page) (last : Page) where
  abbrev pub Either : Page → Type 0
  Either page = IsShownBy noted page ⊎ (page ≡ last)

  of-either : StandsFor names noted last members → (p : Page) → Either p → Of names members p
  of-either stands p is =
      ⊎_elim (λ (t : IsShownBy noted p). shown-of names noted members stands.published p t)
      (λ (e : p ≡ last). subst (Of names members) (sym (e ∙ stands.is_last)) (last-of names members)) is

  -- pages that it wrote are the run's
  of-shows : NumbersRise 0 members → StandsFor names noted last members → (failed : Bool) (now : ℕ) (old new : Option (List ℕ)) → Shows names Either failed 0 now old new
      → (failed ≡ false → now ≡ last.number) → ShowsRun names members failed old new
  of-shows numbers stands failed now old new s number =
      of-run names members failed s.pages old new numbers s.rises
      (with-numbers names 0 members s.pages s.rises (all-so names Either (Of names members) (of-either stands) s.pages s.each))
      (λ (ok : failed ≡ false). sym (s.last ok) ∙ (number ok ∙ ap (λ (p : Page). p.number) stands.is_last)) s.written

  -- none of the pages that it wrote has a greater number than the last
  most-of : NumbersRise 0 members → StandsFor names noted last members → (failed : Bool) (now : ℕ) (old new : Option (List ℕ)) → Shows names Either failed 0 now old new
      → failed ≡ false → now ≤ last.number
  most-of numbers stands failed now old new s ok =
      let is : now ≡ last_number 0 s.pages = s.last ok in
      let same : last.number ≡ (last_page names members).number = ap (λ (p : Page). p.number) stands.is_last in
      let most = at-most names members numbers 0 (omega arith) s.pages (with-numbers names 0 members s.pages s.rises (all-so names Either (Of names members) (of-either stands) s.pages s.each)) in
      omega (arith, is, same, most)

  -- and so the page that was published last
  published-most : NumbersRise 0 members → StandsFor names noted last members → (page_shown noted).number ≤ last.number
  published-most numbers stands = elim (cases_Bool (nat_lt 0 (page_shown noted).number)) [
    | inl some ↦
        let of = shown-of names noted members stands.published (page_shown noted) (noted, ([], sym (append-nil noted)), refl) (ltb-true 0 (page_shown noted).number some) in
        let same : last.number ≡ (last_page names members).number = ap (λ (p : Page). p.number) stands.is_last in
        let most = last-most names 0 members numbers (page_shown noted) of in omega (arith, same, most)
    | inr none ↦ let zero_is = ltb-false 0 (page_shown noted).number none in omega (arith, zero_is)
  ]

  seen-either : BeginsWith noted seen → (p : Page) → IsShownBy seen p → Either p
  seen-either begins p is = inl (shown-by-more noted seen begins p is)

  -- the display went on to the last page
  pub shows-to-end : NumbersRise 0 members → StandsFor names noted last members → BeginsWith noted seen → (failed : Bool) (mid now number : ℕ) (old at new : Option (List ℕ))
      → Shows names (IsShownBy seen) false 0 mid old at → Shows names Either failed mid now at new → number ≡ (page_shown noted).number
      → (failed ≡ false → now ≡ max (max mid number) last.number) → ShowsRun names members failed old new
  shows-to-end numbers stands begins failed mid now number old at new s t shown end =
      let first : Shows names Either false 0 mid old at = shows-so names (IsShownBy seen) Either false 0 mid old at (seen-either begins) s in
      let few = most-of numbers stands false mid old at first refl in
      let published = published-most numbers stands in
      of-shows numbers stands failed now old new (shows-both names Either failed 0 mid now old at new first t)
      (λ (ok : failed ≡ false). let is = end ok in omega (arith, is, few, published, shown))

  -- the screen failed before
  pub shows-in-part : NumbersRise 0 members → StandsFor names noted last members → BeginsWith noted seen → (failed : Bool) (mid : ℕ) (old new : Option (List ℕ))
      → failed ≡ true → Shows names (IsShownBy seen) failed 0 mid old new → ShowsRun names members failed old new
  shows-in-part numbers stands begins failed mid old new is s =
      of-shows numbers stands failed mid old new (shows-so names (IsShownBy seen) Either failed 0 mid old new (seen-either begins) s)
      (λ (ok : failed ≡ false). absurd (let bad : false ≡ true = sym ok ∙ is in cc bad))
