-- Plans in the order of their names. [This profile.]
use Rattle.std.specs.Prelude.{◌≡◌, List, length}
use Rattle.std.specs.Cmp.Lexicographic.{slice_cmp}
use Rattle.std.specs.List.{AllAdjacentBelow}
use Rattle.std.specs.Ordering.{nat_cmp}
use Rattle.std.proofs.Common.{Less}
use Rattle.param_plan.specs.Slices.{ParamSlice}

-- each name is greater than the one before
abbrev pub Ascend : List ParamSlice → Type 0
Ascend slices = AllAdjacentBelow (λ x y. slice_cmp nat_cmp x.pcf.name y.pcf.name ≡ Less) slices (length slices)
