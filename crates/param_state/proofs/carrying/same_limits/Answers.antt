use Rattle.std.proofs.Common.{◌∙◌, rules}
use Rattle.mib_model.specs.Sameness.{same_cells}
use Rattle.param_state.proofs.CarriedFacts.{limits-same}
use Rattle.param_state.proofs.carrying.same_limits.Goals as goal

pub returns : goal.returns
unfolding same_cells
returns c = c.eq.ensures ∙ limits-same _ c.args.old.now c.args.new.now (λ x y. search rules)
