use Rattle.std.proofs.Common.{sym, subst}
use Rattle.param_plan.specs.Choices.{IsApart}
use Rattle.param_plan.proofs.SoundFacts.{curves-apart}
use Rattle.param_set.proofs.compiled.keep_all.Goals as goal

pub keep-requires : goal.keep-requires
keep-requires g c = subst IsApart (sym c.in_ok-rows.ensures) (curves-apart c.args.curves.now c.args.categ c.in-Some.name c.requires)
