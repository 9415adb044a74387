use Rattle.std.proofs.Common.{◌≡◌, List, ap, subst, sym}
use Rattle.std.specs.Result.{is_err}
use Rattle.display_pages.specs.declared.page.Page.{Page}
use Rattle.page_board.specs.declared.viewer.Viewer.{Viewer}
use Rattle.page_board.specs.Ends.{known_by}
use Rattle.page_board.specs.Views.{BeginsWith, IsShownBy}
use Rattle.page_screen.proofs.ShowFacts.{shown-by-all, shows-so}
use Rattle.page_screen.proofs.display.Display.show.Goals as goal

pub returns-clause-shows : goal.returns-clause-shows
returns-clause-shows g c =
    let seen : List Page = (known_by c.look-page.new.self).seen in let page : Page = c.look-page.result in
    let is : IsShownBy seen page = shown-by-all seen page c.look-page.ensures.looks.shows in
    let same : (known_by c.write.new.self.viewer).seen ≡ seen = ap (λ (v : Viewer). (known_by v).seen) c.write.ensures.viewer in
    shows-so c.args.self.now.names.items (λ (p : Page). p ≡ page) (IsShownBy (known_by c.write.new.self.viewer).seen) (is_err c.write.result)
    c.args.self.now.shown c.write.new.self.shown (g.S.Sink.written c.args.screen.now) (g.S.Sink.written c.write.new.screen)
    (λ (p : Page) (e : p ≡ page). subst (λ (l : List Page). IsShownBy l p) (sym same) (subst (IsShownBy seen) (sym e) is)) c.write.ensures.shows

pub returns-clause-later : goal.returns-clause-later
returns-clause-later g c =
    subst (λ (v : Viewer). BeginsWith (known_by v).seen (known_by c.args.self.now.viewer).seen) (sym c.write.ensures.viewer) c.look-page.ensures.looks.later
