use Rattle.mib_model.specs.Curves.{curve_named}
use Rattle.param_set.specs.Compiled.{AreNamed}
use Rattle.param_set.proofs.compiled.keep_all.Given as goal

abbrev pub invariant-loop-row : goal.invariant-loop-row
invariant-loop-row g l = AreNamed (curve_named l.curves l.categ) l.initial.kept → AreNamed (curve_named l.curves l.categ) l.kept
