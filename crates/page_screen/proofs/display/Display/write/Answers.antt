use Rattle.std.proofs.Common.{◌≡◌, List, ℕ, false, refl, subst}
use Rattle.std.specs.Io.KnownBytes.{Appends}
use Rattle.display_pages.specs.declared.page.Page.{Page}
use Rattle.display_pages.specs.Pages.{page_text}
use Rattle.tm_io.specs.Octets.{AppendsPrefix}
use Rattle.page_screen.proofs.ShowFacts.{shows-err, shows-none, shows-one, shows-part}
use Rattle.page_screen.proofs.display.Display.write.Goals as goal

pub returns-then-page-self-clause-shows : goal.returns-then-page-self-clause-shows
returns-then-page-self-clause-shows g c =
    shows-none c.args.self.now.names.items (λ (p : Page). p ≡ c.args.page.now) c.args.self.now.shown (g.S.Sink.written c.args.screen.now)

pub returns-in_err-write_page-clause-shows : goal.returns-in_err-write_page-clause-shows
returns-in_err-write_page-clause-shows g c =
    let names : List (List ℕ) = c.args.self.now.names.items in let page : Page = c.args.page.now in
    let old = g.S.Sink.written c.args.screen.now in let new = g.S.Sink.written c.write_page.new.screen in
    shows-err c.from_residual.result names (λ (p : Page). p ≡ page) c.args.self.now.shown c.args.self.now.shown old new c.from_residual.ensures.0
    (shows-part names page c.args.self.now.shown old new c.if-page-self.false
    (subst (λ (ns : List (List ℕ)). AppendsPrefix old new (page_text ns page)) c.deref.ensures.value c.in_err-write_page.ensures.part))

pub returns-clause-shows : goal.returns-clause-shows
returns-clause-shows g c =
    let names : List (List ℕ) = c.args.self.now.names.items in let page : Page = c.args.page.now in
    let old = g.S.Sink.written c.args.screen.now in let new = g.S.Sink.written c.write_page.new.screen in
    shows-one names (λ (p : Page). p ≡ page) false page c.args.self.now.shown page.number old new refl c.if-page-self.false (λ _. refl)
    (subst (λ (ns : List (List ℕ)). Appends old new (page_text ns page)) c.deref.ensures.value c.in_ok-write_page.ensures.all)
