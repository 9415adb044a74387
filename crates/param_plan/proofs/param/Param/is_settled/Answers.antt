use Rattle.std.proofs.Common.{◌≡◌, subst, true}
use Rattle.mib_model.specs.Finish.{is_valid}
use Rattle.mib_model.specs.Kept.{empty_memory}
use Rattle.param_plan.specs.Slices.{ParamSlice, curve_in, slice_of}
use Rattle.param_plan.proofs.PlainFacts.{settled-valid, settled-curve}
use Rattle.param_plan.proofs.param.Param.is_settled.Goals as goal

pub returns-then-not-self-clause-valid : goal.returns-then-not-self-clause-valid
returns-then-not-self-clause-valid c = λ settled memory.
    subst (λ (s : ParamSlice). is_valid memory s.pcf ≡ true) c.self.view_is
    (settled-valid (slice_of c.self.inside.rows.value) c.self.inside.conditional c.self.invariant.valid c.if-not-self.true memory)

pub returns-then-not-self-clause-curve : goal.returns-then-not-self-clause-curve
returns-then-not-self-clause-curve c = λ settled memory.
    subst (λ (s : ParamSlice). curve_in s memory ≡ curve_in s empty_memory) c.self.view_is
    (settled-curve (slice_of c.self.inside.rows.value) c.self.inside.selections.items c.self.invariant.curs (c.self.invariant.none settled) memory empty_memory)
