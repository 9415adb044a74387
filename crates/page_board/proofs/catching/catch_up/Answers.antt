use Rattle.std.proofs.Common.{List, ap, sym, subst, ◌∙◌}
use Rattle.std.specs.List.{AllByRecursion}
use Rattle.display_pages.specs.declared.page.Page.{Page}
use Rattle.page_board.specs.declared.view.BoardView.{BoardView}
use Rattle.page_board.specs.Ends.{known_by, pages_noted}
use Rattle.page_board.specs.Views.{BeginsWith, IsShownBy, page_shown}
use Rattle.page_board.proofs.RuleFacts.{seen-is-told}
use Rattle.page_board.proofs.catching.catch_up.Goals as goal

pub returns-clause-seen : goal.returns-clause-seen
returns-clause-seen g c =
    let looked = c.look_for.ensures in
    seen-is-told (known_by c.look_for.new.viewer) (pages_noted c.args.note) _ looked.rises looked.told
    (looked.same.0 ∙ ap (λ (v : BoardView). v.told) c.learn.ensures.learns)
    (ap (λ (p : Page). p.number) (sym looked.shown) ∙ (looked.number ∙ c.args.note.number))

pub returns-clause-last : goal.returns-clause-last
returns-clause-last g c = c.look_for.ensures.shown ∙ ap page_shown (returns-clause-seen g c)

pub returns-clause-got : goal.returns-clause-got
returns-clause-got g c =
    subst (λ (l : List Page). AllByRecursion (IsShownBy l) (known_by c.look_for.new.viewer).got) (returns-clause-seen g c) c.look_for.ensures.got

pub returns-clause-later : goal.returns-clause-later
returns-clause-later g c =
    let learned = ap (λ (v : BoardView). v.seen) c.learn.ensures.learns in
    subst (λ (l : List Page). BeginsWith l (known_by c.args.viewer.now).seen) (returns-clause-seen g c)
    (subst (λ (l : List Page). BeginsWith (known_by c.look_for.new.viewer).seen l) learned c.look_for.ensures.later)
