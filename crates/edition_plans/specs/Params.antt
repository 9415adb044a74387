-- The plans of a database's parameters. [SCOS-2000 Database Import ICD, pcf.]
use Rattle.std.specs.Prelude.{List, map, filter}
use Rattle.mib_model.specs.declared.database.Database.{Database}
use Rattle.mib_model.specs.Orders.{sorted_by}
use Rattle.mib_model.specs.Plans.{has_plan, may_precede}
use Rattle.param_plan.specs.Slices.{ParamSlice, slice_for}

-- the slices of all parameters that have plans, by name
unfoldable pub param_slices : Database → List ParamSlice
param_slices db = map (slice_for db) (sorted_by (λ x y. may_precede x.name y.name) (filter has_plan db.pcf))
