use Rattle.std.proofs.Common.{◌≡◌, Some, filter, ap, ◌∙◌}
use Rattle.std.specs.Option.{option_eq}
use Rattle.mib_model.specs.Orders.{sorted_by_number}
use Rattle.row_interpreter.proofs.SortFacts.{number-kept}
use Rattle.row_interpreter.proofs.ordered.OrderedRows.of.Goals as goal

pub returns : goal.returns
returns g c =
    let rows : c.self.inside.rows ≡ c.args.self.now = c.self.view_is in
    let sorted : c.self.inside.groups ≡ sorted_by_number g.B.ByPlace.place_of c.self.inside.rows = c.self.invariant in
    c.of.ensures ∙ (ap (filter (λ row. option_eq g.B.Key.PartialEq.eq (g.B.By.key_of row) (Some c.args.key.now))) (sorted ∙ ap (sorted_by_number g.B.ByPlace.place_of) rows)
    ∙ number-kept g.B.ByPlace.place_of (λ row. option_eq g.B.Key.PartialEq.eq (g.B.By.key_of row) (Some c.args.key.now)) c.args.self.now)
