-- Which plans of parameters are shared with a base. [This profile.]
use Rattle.std.specs.Prelude.{ℕ, Bool, false, List, [], ◌∷◌, Option, Some, None, filter, not, if◌then◌else◌}
use Rattle.std.specs.List.{find}
use Rattle.std.specs.Str.{bytes_eq}
use Rattle.param_state.specs.ParamPlans.{plan_names}
use Rattle.mib_model.specs.Touched.{same_slice}
use Rattle.param_plan.specs.Slices.{ParamSlice, as_slice}

-- an old slice, if there is one, has the rows of a new one, in the same order
abbrev pub is_as_before : ParamSlice → Option ParamSlice → Bool
is_as_before slice None = false
is_as_before slice (Some old) = same_slice (as_slice old) (as_slice slice)

-- the base has no plan of the parameter's name with the same rows, in the same order
unfoldable pub is_new : List ParamSlice → ParamSlice → Bool
is_new base slice = not (is_as_before slice (find (λ old. bytes_eq old.pcf.name slice.pcf.name) base))

-- the names of those slices that the base has no plan of
abbrev pub new_names : List ParamSlice → List ParamSlice → List (List ℕ)
new_names base slices = plan_names (filter (is_new base) slices)

-- a name alone where something holds, else nothing
abbrev pub name_if : Bool → List ℕ → List (List ℕ)
name_if b name = if b then name ∷ [] else []
