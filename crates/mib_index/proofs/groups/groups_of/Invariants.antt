use Rattle.std.proofs.Common.{◌≡◌, filter, take, Some}
use Rattle.std.specs.Option.{option_eq}
use Rattle.std.specs.HashMap.{get}
use Rattle.mib_index.specs.Groups.{rows_of}
use Rattle.mib_index.proofs.groups.groups_of.Given as goal

abbrev pub invariant-loop-row : goal.invariant-loop-row
invariant-loop-row g l =
    (key : g.row.B-Key.Denot) → rows_of (get g.B.Key.PartialEq.eq l.groups key) ≡ filter (λ row. option_eq g.B.Key.PartialEq.eq (g.B.By.key_of row) (Some key)) (take l.row-index l.rows)
