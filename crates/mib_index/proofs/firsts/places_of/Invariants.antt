use Rattle.std.proofs.Common.{◌≡◌, take, Some}
use Rattle.std.specs.HashMap.{get}
use Rattle.std.specs.List.{position}
use Rattle.std.specs.Option.{option_eq}
use Rattle.mib_index.proofs.firsts.places_of.Given as goal

abbrev pub invariant-loop-place : goal.invariant-loop-place
invariant-loop-place g l =
    (key : g.row.B-Key.Denot) → get g.B.Key.PartialEq.eq l.places key ≡ position (λ row. option_eq g.B.Key.PartialEq.eq (g.B.By.key_of row) (Some key)) (take l.place l.rows)
