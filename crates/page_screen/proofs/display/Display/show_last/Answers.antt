use Rattle.std.proofs.Common.{◌≡◌, ◌⊎◌, List, ℕ, Bool, false, true, inl, inr, subst, sym}
use Rattle.std.specs.Result.{is_err}
use Rattle.display_pages.specs.declared.page.Page.{Page}
use Rattle.page_board.specs.Ends.{pages_noted}
use Rattle.page_board.specs.Views.{IsShownBy}
use Rattle.page_screen.specs.Ends.{names_of}
use Rattle.page_screen.specs.Shows.{Shows}
use Rattle.page_screen.proofs.ShowFacts.{shown-by-all, shows-both, shows-err, shows-so}
use Rattle.page_screen.proofs.display.Display.show_last.Goals as goal

pub returns-in_err-write-clause-shows : goal.returns-in_err-write-clause-shows
returns-in_err-write-clause-shows g c =
    let first = c.args.self.now in let after = c.write.new.self in let noted : List Page = pages_noted c.args.note in let last : Page = c.args.last.now in let page : Page = c.catch_up-page.result in
    let old = g.S.Sink.written c.args.screen.now in let new = g.S.Sink.written c.write.new.screen in
    let shown : IsShownBy noted page = shown-by-all noted page c.catch_up-page.ensures.last in
    shows-err c.from_residual.result (names_of first) (λ (p : Page). IsShownBy noted p ⊎ (p ≡ last)) first.shown after.shown old new c.from_residual.ensures.0
    (shows-so (names_of first) (λ (p : Page). p ≡ page) (λ (p : Page). IsShownBy noted p ⊎ (p ≡ last)) true first.shown after.shown old new
    (λ (p : Page) (e : p ≡ page). inl (subst (IsShownBy noted) (sym e) shown)) c.in_err-write.ensures.shows)

pub returns-clause-shows : goal.returns-clause-shows
returns-clause-shows g c =
    let first = c.args.self.now in let at = c.write.new.self in let after = c.write-2.new.self in
    let noted : List Page = pages_noted c.args.note in let last : Page = c.args.last.now in let page : Page = c.catch_up-page.result in
    let old = g.S.Sink.written c.args.screen.now in let mid = g.S.Sink.written c.write.new.screen in let new = g.S.Sink.written c.write-2.new.screen in
    let shown : IsShownBy noted page = shown-by-all noted page c.catch_up-page.ensures.last in
    let failed : Bool = is_err c.write-2.result in
    shows-both (names_of first) (λ (p : Page). IsShownBy noted p ⊎ (p ≡ last)) failed first.shown at.shown after.shown old mid new
    (shows-so (names_of first) (λ (p : Page). p ≡ page) (λ (p : Page). IsShownBy noted p ⊎ (p ≡ last)) false first.shown at.shown old mid
    (λ (p : Page) (e : p ≡ page). inl (subst (IsShownBy noted) (sym e) shown)) c.in_ok-write.ensures.shows)
    (shows-so (names_of first) (λ (p : Page). p ≡ last) (λ (p : Page). IsShownBy noted p ⊎ (p ≡ last)) failed at.shown after.shown mid new
    (λ (p : Page) (e : p ≡ last). inr e)
    (subst (λ (ns : List (List ℕ)). Shows ns (λ (p : Page). p ≡ last) failed at.shown after.shown mid new) c.write.ensures.names c.write-2.ensures.shows))
