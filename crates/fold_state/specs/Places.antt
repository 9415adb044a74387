-- Names in their order. [This profile.]
use Rattle.std.specs.Prelude.{◌≡◌, ℕ, List, length}
use Rattle.std.specs.Cmp.Lexicographic.{slice_cmp}
use Rattle.std.specs.List.{AllAdjacentBelow}
use Rattle.std.specs.Ordering.{nat_cmp}
use Rattle.std.proofs.Common.{Less}

-- each name is greater than the one before
abbrev pub Rise : List (List ℕ) → Type 0
Rise names = AllAdjacentBelow (λ x y. slice_cmp nat_cmp x y ≡ Less) names (length names)
