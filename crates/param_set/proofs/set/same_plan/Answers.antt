use Rattle.std.proofs.Common.{◌≡◌, ◌∙◌, Bool, true, false, sym, ap}
use Rattle.std.specs.Arc.{arc_value}
use Rattle.mib_model.specs.Touched.{same_slice}
use Rattle.param_plan.specs.Slices.{ParamSlice, as_slice, slice_of}
use Rattle.param_set.proofs.SameFacts.{equal-slices}
use Rattle.param_set.proofs.SharingFacts.{new-beside, new-unnamed}
use Rattle.param_set.proofs.set.same_plan.Goals as goal

-- a test of the rows of a plan is one of the plan's slice
tested : (rows old new : ParamSlice) (same : Bool) → rows ≡ old → same ≡ same_slice (as_slice rows) (as_slice new) → same ≡ same_slice (as_slice old) (as_slice new)
tested rows old new same is test = test ∙ ap (λ (s : ParamSlice). same_slice (as_slice s) (as_slice new)) is

pub returns-in_default-clause-new : goal.returns-in_default-clause-new
returns-in_default-clause-new c = new-unnamed c.args.base.now (slice_of c.args.rows.now) c.in_default.ensures

pub returns-then-same_rows-clause-same : goal.returns-then-same_rows-clause-same
returns-then-same_rows-clause-same c =
    equal-slices (arc_value c.in-Some.plan.now) (slice_of c.args.rows.now)
    (sym (tested (slice_of c.rows.result.now) (arc_value c.in-Some.plan.now) (slice_of c.args.rows.now) true (c.rows.ensures ∙ c.deref.ensures) c.if-same_rows.ensures))

pub returns-then-same_rows-clause-new : goal.returns-then-same_rows-clause-new
returns-then-same_rows-clause-new c =
    new-beside c.args.base.now (slice_of c.args.rows.now) (arc_value c.in-Some.plan.now) true c.in-Some.ensures
    (tested (slice_of c.rows.result.now) (arc_value c.in-Some.plan.now) (slice_of c.args.rows.now) true (c.rows.ensures ∙ c.deref.ensures) c.if-same_rows.ensures)

pub returns-else-same_rows-clause-new : goal.returns-else-same_rows-clause-new
returns-else-same_rows-clause-new c =
    new-beside c.args.base.now (slice_of c.args.rows.now) (arc_value c.in-Some.plan.now) false c.in-Some.ensures
    (tested (slice_of c.rows.result.now) (arc_value c.in-Some.plan.now) (slice_of c.args.rows.now) false (c.rows.ensures ∙ c.deref.ensures) c.if-same_rows.ensures)
