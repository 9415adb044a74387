use Rattle.std.proofs.Common.{sym, subst}
use Rattle.mib_model.specs.Curves.{curve_named}
use Rattle.param_plan.specs.Choices.{IsApart}
use Rattle.param_plan.proofs.SoundFacts.{curves-apart}
use Rattle.param_set.proofs.CompiledFacts.{none-named}
use Rattle.param_set.proofs.compiled.keep_named.Goals as goal

pub loop-name-init : goal.loop-name-init
loop-name-init c = none-named (curve_named c.args.curves.now c.args.categ) c.new-kept.result c.new-kept.ensures.empty

pub keep-requires : goal.keep-requires
keep-requires c = subst IsApart (sym c.in_ok-rows.ensures) (curves-apart c.args.curves.now c.args.categ _ c.requires)
