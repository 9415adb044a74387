-- The pair of points that a raw number is taken by, where pairs come one after the other. [This profile.]
use Rattle.std.specs.Prelude.{ℤ, int_le, List, Option, Some, None, filter}
use Rattle.std.specs.List.{last_or}
use Rattle.mib_model.specs.Points.{Knot, pair_for}

-- the pair that is taken of one that was taken before, if there is one, and of those that come then
abbrev pub taken_of : ℤ → Option (Knot × Knot) → List (Knot × Knot) → Option (Knot × Knot)
taken_of raw None pairs = pair_for raw pairs
taken_of raw (Some found) pairs = last_or (Some found) (filter (λ pair. int_le pair.0.x raw) pairs)
