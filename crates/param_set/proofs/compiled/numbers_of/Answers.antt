use Rattle.mib_model.specs.Curves.{curve_named}
use Rattle.param_set.specs.declared.compiled.TheConstants.{NUMBERS}
use Rattle.param_set.proofs.CompiledFacts.{none-named}
use Rattle.param_set.proofs.compiled.numbers_of.Goals as goal

pub returns : goal.returns
returns c =
    c.in_ok-keep_all-3.ensures (c.in_ok-keep_all-2.ensures (c.in_ok-keep_all.ensures (none-named (curve_named c.args.curves.now NUMBERS) c.new-kept.result c.new-kept.ensures.empty)))
