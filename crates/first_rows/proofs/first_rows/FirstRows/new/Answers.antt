use Rattle.std.proofs.Common.{◌∙◌, List, Some, ap, length, sym}
use Rattle.std.specs.List.{find}
use Rattle.std.specs.Option.{option_eq}
use Rattle.first_rows.proofs.ByNumberFacts.{none-at}
use Rattle.first_rows.proofs.first_rows.FirstRows.new.Goals as goal

pub invariant_of-result : goal.invariant_of-result
invariant_of-result g c = (
  ap length (sym c.in_ok-of.ensures),
  λ key. c.in_ok-firsts.ensures key ∙ ap (λ (rows : List g.row.B-Row.Denot). find (λ row. option_eq g.B.Key.PartialEq.eq (g.B.By.key_of row) (Some key)) rows) (sym c.in_ok-of.ensures),
  λ row hand. none-at c.none.result row c.none.ensures hand,
)
