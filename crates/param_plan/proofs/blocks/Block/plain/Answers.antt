use Rattle.std.proofs.Common.{◌∙◌}
use Rattle.param_plan.proofs.PlainFacts.{marks-same}
use Rattle.param_plan.proofs.blocks.Block.plain.Goals as goal

pub returns : goal.returns
returns c = c.deref.ensures.value ∙ c.self.invariant ∙ marks-same c.self.inside.plans.items c.args.self.now c.self.view_is
