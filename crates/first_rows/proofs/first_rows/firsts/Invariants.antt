use Rattle.std.proofs.Common.{◌≡◌, take, Some}
use Rattle.std.specs.List.{find}
use Rattle.std.specs.Option.{option_eq}
use Rattle.std.specs.HashMap.{get}
use Rattle.first_rows.proofs.first_rows.firsts.Given as goal

abbrev pub invariant-loop-row : goal.invariant-loop-row
invariant-loop-row g l =
    (key : g.row.B-Key.Denot) → get g.B.Key.PartialEq.eq l.firsts key ≡ find (λ row. option_eq g.B.Key.PartialEq.eq (g.B.By.key_of row) (Some key)) (take l.row-index l.rows)
