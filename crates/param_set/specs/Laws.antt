-- Laws of the plans of all parameters. [This profile.]
use Rattle.std.specs.Prelude.{◌≡◌, List, [], filter, map}
use Rattle.edition_plans.specs.Params.{param_slices}
use Rattle.param_state.specs.ParamPlans.{plan_names, planned_names, IsParamsOf}
use Rattle.mib_model.specs.declared.database.Database.{Database}
use Rattle.mib_model.specs.declared.plan.PlanName.TheVariants as plan
use Rattle.mib_model.specs.Plans.{param_plans, plans}
use Rattle.mib_model.specs.Soundness.{IsSound}
use Rattle.mib_model.specs.Touched.{is_touched}
use Rattle.param_plan.specs.Slices.{ParamSlice}
use Rattle.param_set.specs.Sharing.{is_new, new_names}

-- in a sound database the plan of a name is that of the parameter of the name, where that has one
abbrev pub SlicesAreOfTheDatabase : Type 0
SlicesAreOfTheDatabase = (db : Database) → IsSound db → IsParamsOf db (param_slices db)

-- the names of the plans are those of the parameters that have plans, in order
abbrev pub SlicesHavePlannedNames : Type 0
SlicesHavePlannedNames = (db : Database) → plan_names (param_slices db) ≡ planned_names db

-- the plans of parameters that are new to an old database are those that are touched, in their order
abbrev pub NewPlansAreTouched : Type 0
NewPlansAreTouched =
    (old new : Database) → map plan.Param (new_names (param_slices old) (param_slices new)) ≡ map (λ p. p.name) (filter (is_touched (plans old)) (param_plans new))

-- all slices are new to a base without any
abbrev pub AllAreNewToNothing : Type 0
AllAreNewToNothing = (slices : List ParamSlice) → filter (is_new []) slices ≡ slices
