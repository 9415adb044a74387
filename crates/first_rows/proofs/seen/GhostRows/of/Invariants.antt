use Rattle.std.proofs.Common.{◌≡◌, take, map}
use Rattle.first_rows.proofs.seen.GhostRows.of.Given as goal

abbrev pub invariant-loop-row : goal.invariant-loop-row
invariant-loop-row g l = map (λ row. row.value) l.seen.items ≡ take l.row-index l.rows
