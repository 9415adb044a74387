-- The plans of a database beside those of a base, kind by kind. [This profile.]
use Rattle.std.specs.Prelude.{Bool, List, [], ◌∷◌, ◌++◌, filter, map, if◌then◌else◌}
use Rattle.ident_plan.specs.Rows.{IdentRows}
use Rattle.mib_model.specs.declared.database.Database.{Database}
use Rattle.mib_model.specs.declared.plan.Plan.{Plan}
use Rattle.mib_model.specs.declared.plan.PlanName.{PlanName}
use Rattle.mib_model.specs.declared.plan.PlanName.TheVariants as plan
use Rattle.mib_model.specs.Plans.{ident_plan, layout_plans, param_plans, plans, structure_plans}
use Rattle.mib_model.specs.Touched.{is_touched, same_slice}

-- the names of those of some plans that are new to a base, or have other rows there
abbrev pub touched_among : Database → List Plan → List PlanName
touched_among base all = map (λ p. p.name) (filter (is_touched (plans base)) all)

-- the plans that are found by a key: those of parameters, of layouts and of structures
abbrev pub keyed_plans : Database → List Plan
keyed_plans db = param_plans db ++ layout_plans db ++ structure_plans db

-- the rows that identification depends on
abbrev pub ident_rows : Database → IdentRows
ident_rows db = record { pids = db.pid; pics = db.pic }

-- whether identification depends on the same rows in a base
abbrev pub has_ident : Database → Database → Bool
has_ident base db = same_slice (ident_plan base).slice (ident_plan db).slice

-- the name of the plan of identification where something holds, else nothing
abbrev pub ident_if : Bool → List PlanName
ident_if b = if b then plan.Ident ∷ [] else []
