use Rattle.std.proofs.Common.{sym, subst}
use Rattle.param_plan.specs.Choices.{IsApart}
use Rattle.param_plan.proofs.SoundFacts.{curves-apart}
use Rattle.param_set.proofs.compiled.CompiledCurves.shared.Goals as goal

pub compiled-requires : goal.compiled-requires
compiled-requires c = subst IsApart (sym c.in_ok-named.ensures) (curves-apart c.self.inside.curves c.args.categ c.args.name.now c.self.invariant.0)
