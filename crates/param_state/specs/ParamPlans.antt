-- Plans of the parameters of a database, and their names. [This profile.]
use Rattle.std.specs.Prelude.{ℕ, Bool, List, map, filter, Option, Some, None, if◌then◌else◌, ◌≡◌, ◌&&◌, option_and_then}
use Rattle.std.specs.Cmp.Lexicographic.{pointwise}
use Rattle.std.specs.List.{find}
use Rattle.std.specs.Str.{bytes_eq}
use Rattle.mib_model.specs.declared.database.Database.{Database}
use Rattle.mib_model.specs.Kept.{Memory}
use Rattle.mib_model.specs.Orders.{sorted_by}
use Rattle.mib_model.specs.Plans.{has_plan, may_precede}
use Rattle.param_plan.specs.Slices.{ParamSlice, curve_in, slice_for}
use Rattle.mib_model.specs.declared.rows.PcfRow.{PcfRow}
use Rattle.mib_model.specs.Carry.{check_of, same_check}
use Rattle.mib_model.specs.Checks.{checks_of}
use Rattle.mib_model.specs.Curves.{curve_of}
use Rattle.mib_model.specs.Parameters.{parameter}
use Rattle.mib_model.specs.SameRows.{same_pcf, same_ocp}

-- whether a name is another's octets
abbrev pub is_name_of : List ℕ → List ℕ → Bool
is_name_of name other = bytes_eq other name

-- the names of plans
abbrev pub plan_names : List ParamSlice → List (List ℕ)
plan_names params = map (λ slice. slice.pcf.name) params

-- the names of the parameters that have plans, in order
abbrev pub planned_names : Database → List (List ℕ)
planned_names db = map (λ row. row.name) (sorted_by (λ x y. may_precede x.name y.name) (filter has_plan db.pcf))

-- the slice of a parameter that has a plan
abbrev pub planned : Database → PcfRow → Option ParamSlice
planned db row = if has_plan row then Some (slice_for db row) else None

-- plans are the parameters of a database that have plans
abbrev pub IsParamsOf : Database → List ParamSlice → Type 0
IsParamsOf db params =
    (name : List ℕ) → find (λ slice. bytes_eq slice.pcf.name name) params ≡ option_and_then (planned db) (parameter db.pcf name)

-- a slice has the rows of the parameter of a name
pub record IsSliceOf (db : Database) (name : List ℕ) (s : ParamSlice) : Type 0 where
  pub row : parameter db.pcf name ≡ Some s.pcf
  pub curve : (memory : Memory) → curve_in s memory ≡ curve_of db s.pcf memory
  pub ocf : s.ocf ≡ check_of db name
  pub ocps : s.ocps ≡ checks_of db name

-- whether what is kept of a parameter stays, by the rows of its plans
abbrev pub is_same_slice : ParamSlice → ParamSlice → Bool
is_same_slice old new = same_pcf old.pcf new.pcf && same_check old.ocf new.ocf && pointwise same_ocp old.ocps new.ocps
