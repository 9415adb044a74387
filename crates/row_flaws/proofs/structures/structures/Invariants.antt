use Rattle.std.proofs.Common.{◌≡◌, ℕ, filter, take}
use Rattle.row_flaws.specs.Structures.{spots_at, is_in}
use Rattle.row_flaws.proofs.structures.structures.Given as goal

abbrev pub invariant-loop-spot : goal.invariant-loop-spot
invariant-loop-spot l = (q : ℕ) → spots_at l.structures q ≡ filter (is_in q) (take l.spot-index l.spot-items)
