-- The blocks in which parameters have plans. [This project's own.]
use Rattle.std.specs.Prelude.{◌≡◌, ◌/◌, ℕ, true, nat_eq, List, Some}
use Rattle.std.specs.List.{list_any, position}
use Rattle.std.specs.Str.{bytes_eq}
use Rattle.param_plan.specs.declared.blocks.TheConstants.{BLOCK}
use Rattle.param_plan.specs.Slices.{ParamSlice}
use Rattle.param_changes.specs.Changed.{has_name}

-- these are among the blocks in which parameters of these names have plans
abbrev pub Touches : List ℕ → List ParamSlice → List (List ℕ) → Type 0
Touches touched slices names =
    (name : List ℕ) (at : ℕ) → has_name names name ≡ true → position (λ slice. bytes_eq slice.pcf.name name) slices ≡ Some at
    → list_any (λ n. nat_eq n (at / BLOCK)) touched ≡ true
