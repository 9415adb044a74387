use Rattle.std.proofs.Common.{◌≡◌, ◌⊎◌, List, subst}
use Rattle.std.specs.Result.{is_err}
use Rattle.display_pages.specs.declared.page.Page.{Page}
use Rattle.page_board.specs.Ends.{pages_noted}
use Rattle.page_board.specs.Views.{IsShownBy}
use Rattle.page_screen.specs.Ends.{names_of}
use Rattle.page_screen.specs.Shows.{Shows}
use Rattle.page_watch.specs.Ends.{last_of}
use Rattle.run_pages.proofs.finishing.finish.Goals as goal

pub returns-in-Ok-clause-shows : goal.returns-in-Ok-clause-shows
returns-in-Ok-clause-shows g c =
    let at = c.args.display.now in let after = c.show_last.new.self in
    let old = g.S.Sink.written c.args.screen.now in let new = g.S.Sink.written c.show_last.new.screen in
    rw (c.in-Ok.is)
    (subst (λ (noted : List Page). Shows (names_of at) (λ page. IsShownBy noted page ⊎ (page ≡ last_of c.args.pager.now)) (is_err c.show_last.result) at.shown after.shown old new)
    c.note_of-note.ensures.pages
    (subst (λ (last : Page). Shows (names_of at) (λ page. IsShownBy (pages_noted c.note_of-note.result) page ⊎ (page ≡ last)) (is_err c.show_last.result) at.shown after.shown old new)
    c.last-last.ensures c.show_last.ensures.shows))
