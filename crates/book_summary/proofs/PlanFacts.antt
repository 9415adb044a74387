-- How many plans the rows of a database ask for.
use Rattle.std.proofs.Common.{◌≡◌, ◌+◌, List, map, length, filter, ◌∙◌, sym, nat_le, arith, length-append}
use Rattle.std.proofs.lemmas.List.{length-map}
use Rattle.mib_model.specs.declared.database.Database.{Database}
use Rattle.mib_model.specs.declared.rows.VpdRow.{VpdRow}
use Rattle.mib_model.specs.Orders.{sorted_by}
use Rattle.mib_model.specs.Plans.{plans, param_plan, param_plans, layout_plan, layout_plans, structure_plan, structure_plans, has_plan, distinct, may_precede}
use Rattle.mib_model.specs.Fixed.{has_layout}
use Rattle.book_summary.proofs.RowFacts.{long-sorted}

-- the plans of items in order are as many as the items
planned : {X Y : Type 0} (plan : X → Y) (before : X → X → _) (xs : List X) → length (map plan (sorted_by before xs)) ≡ length xs
planned plan before xs = length-map (sorted_by before xs) plan ∙ long-sorted before xs

parameters : (db : Database) → length (filter has_plan db.pcf) ≡ length (param_plans db)
unfolding param_plans
parameters db = sym (planned (param_plan db) (λ x y. may_precede x.name y.name) (filter has_plan db.pcf))

layouts : (db : Database) → length (filter has_layout db.pid) ≡ length (layout_plans db)
unfolding layout_plans
layouts db = sym (planned (layout_plan db) (λ x y. nat_le x.spid y.spid) (filter has_layout db.pid))

structures : (db : Database) → length (distinct (map (λ (r : VpdRow). r.tpsd) db.vpd)) ≡ length (structure_plans db)
unfolding structure_plans
structures db = sym (planned (structure_plan db) nat_le (distinct (map (λ (r : VpdRow). r.tpsd) db.vpd)))

-- all plans from the counts of three tables
pub plan-count : (db : Database) → length (filter has_plan db.pcf) + length (filter has_layout db.pid) + length (distinct (map (λ (r : VpdRow). r.tpsd) db.vpd)) + 1 ≡ length (plans db)
unfolding plans
plan-count db = rw (parameters db, layouts db, structures db) (simp length-append (omega arith))
