use Rattle.std.proofs.Common.{◌∙◌, sym, ap}
use Rattle.mib_model.specs.Checks.{class_of}
use Rattle.check_plan.specs.Rows.{CheckRows}
use Rattle.check_plan.specs.Samples.{sample_of}
use Rattle.check_plan.proofs.SetFacts.{class-same}
use Rattle.check_plan.proofs.checks.Checks.is_nominal.Goals as goal

pub returns : goal.returns
returns c = λ calm previous memory.
    let set = c.self.inside.set in
    let sample = sample_of c.args.sample in
    ap (λ (rows : CheckRows). class_of rows.ocps sample previous memory) (sym c.self.view_is) ∙
    (sym (class-same set c.self.inside.ocps.value.items c.self.invariant.types sample previous memory) ∙
    c.self.invariant.types.calm.nominal memory previous sample (sym c.is_calm.ensures ∙ calm))
