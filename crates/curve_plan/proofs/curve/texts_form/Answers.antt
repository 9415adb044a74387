use Rattle.std.proofs.lemmas.Bool.{ne_eqb}
use Rattle.curve_plan.proofs.CompiledFacts.{texts-compiled}
use Rattle.curve_plan.proofs.curve.texts_form.Goals as goal

pub returns : goal.returns
returns c = texts-compiled c.args.txf.now c.args.txps.now c.in_ok-compile.field-0 (ne_eqb c.args.txf.now.rawfmt 82 c.if-txf-eq82.false) c.in_ok-compile.ensures.ranges c.in_ok-compile.ensures.separate
