use Rattle.std.proofs.Common.{◌≡◌, ◌∙◌, ◌⊎◌, ◌<◌, ◌++◌, ◌∷◌, [], subst}
use Rattle.page_board.specs.declared.publisher.Publisher.{Publisher}
use Rattle.page_board.specs.Ends as Board
use Rattle.page_watch.specs.Ends.{last_of, pages_of, shown_of}
use Rattle.page_watch.proofs.pager.Pager.show.Goals as goal

pub returns-then-is_awaited-clause-last : goal.returns-then-is_awaited-clause-last
returns-then-is_awaited-clause-last g c = c.publish.ensures.last ∙ c.lay.ensures.last

pub returns-then-is_awaited-clause-pages : goal.returns-then-is_awaited-clause-pages
returns-then-is_awaited-clause-pages g c =
    let new = c.publish.new.self in
    subst (λ (p : Publisher). ((pages_of new ≡ Board.pages_of p) × (shown_of new ≡ p.shown))
    ⊎ ((pages_of new ≡ Board.pages_of p ++ last_of new ∷ []) × (p.shown < (last_of new).number) × (shown_of new ≡ (last_of new).number)))
    c.lay.ensures.publisher c.publish.ensures.pages
