use Rattle.std.proofs.Common.{Some}
use Rattle.std.specs.Option.{option_eq}
use Rattle.first_rows.specs.ByNumbers.{IsAtHand, IsFirst}
use Rattle.first_rows.proofs.first_rows.numbered_firsts.Given as goal

abbrev pub invariant-loop-row : goal.invariant-loop-row
invariant-loop-row g l = (held : g.row.B-Row.Denot) → IsAtHand l.numbered held
    → IsFirst (λ key row. option_eq g.B.Key.PartialEq.eq (g.B.By.key_of row) (Some key)) l.rows held
