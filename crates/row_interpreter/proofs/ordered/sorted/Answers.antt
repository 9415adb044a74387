use Rattle.std.proofs.Common.{◌≡◌, rules, ap, ◌∙◌}
use Rattle.std.proofs.lemmas.Fn.{always_returns_same}
use Rattle.mib_model.specs.Orders.{sorted_by_number}
use Rattle.row_interpreter.proofs.SortFacts.{sorted-by-number}
use Rattle.row_interpreter.proofs.ordered.sorted.Goals as goal

pub returns : goal.returns
returns g c =
    let computes = always_returns_same _ (λ a r. r ≡ g.B.ByPlace.place_of a.0.now) _ (λ a r q k. search rules) in
    sorted-by-number g.B.ByPlace.place_of _ _ (c.in_ok-sort_by_key.ensures.sorted g.B.ByPlace.place_of computes) (c.in_ok-sort_by_key.ensures.stable g.B.ByPlace.place_of computes)
    ∙ ap (sorted_by_number g.B.ByPlace.place_of) c.in_ok-sorted.ensures.items
