use Rattle.mib_model.specs.Curves.{curve_named}
use Rattle.param_set.specs.Compiled.{AreNamed}
use Rattle.param_set.proofs.compiled.keep_named.Given as goal

abbrev pub invariant-loop-name : goal.invariant-loop-name
invariant-loop-name l = AreNamed (curve_named l.curves l.categ) l.kept
