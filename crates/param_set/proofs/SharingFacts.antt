-- Which slices are new to a base.
use Rattle.std.proofs.Common.{◌≡◌, ◌∙◌, Bool, true, not, List, [], ◌∷◌, Some, None, find, refl, ap}
use Rattle.std.specs.Str.{bytes_eq}
use Rattle.mib_model.specs.Touched.{same_slice}
use Rattle.param_plan.specs.Slices.{ParamSlice, as_slice}
use Rattle.param_set.specs.Laws.{AllAreNewToNothing}
use Rattle.param_set.specs.Sharing.{is_as_before, is_new}

-- a slice of whose name the base has no plan is new
pub new-unnamed : (base : List ParamSlice) (slice : ParamSlice) → None ≡ find (λ old. bytes_eq old.pcf.name slice.pcf.name) base → true ≡ is_new base slice
unfolding is_new
new-unnamed base slice none = ap (λ old. not (is_as_before slice old)) none

-- a slice beside the base's plan of its name is new where the rows differ
pub new-beside : (base : List ParamSlice) (slice old : ParamSlice) (same : Bool) → Some old ≡ find (λ old. bytes_eq old.pcf.name slice.pcf.name) base → same ≡ same_slice (as_slice old) (as_slice slice)
    → not same ≡ is_new base slice
unfolding is_new
new-beside base slice old same found is = ap not is ∙ ap (λ old. not (is_as_before slice old)) found

-- all slices are new to a base without any
pub all-new : AllAreNewToNothing
unfolding is_new
all-new [] = refl
all-new (slice ∷ slices) = ap (λ (rest : List ParamSlice). slice ∷ rest) (all-new slices)
