use Rattle.std.proofs.Common.{◌≡◌, filter, length, take, Some}
use Rattle.std.specs.Option.{option_eq}
use Rattle.std.specs.HashMap.{get}
use Rattle.row_groups.specs.Groups.{count_of}
use Rattle.row_groups.proofs.row_groups.counts.Given as goal

abbrev pub invariant-loop-row : goal.invariant-loop-row
invariant-loop-row g l =
    (key : g.row.B-Key.Denot) → count_of (get g.B.Key.PartialEq.eq l.counts key) ≡ length (filter (λ row. option_eq g.B.Key.PartialEq.eq (g.B.By.key_of row) (Some key)) (take l.row-index l.rows))
