use Rattle.std.proofs.Common.{◌∙◌, ap, option_map}
use Rattle.mib_model.specs.Checks.{class_of}
use Rattle.check_plan.specs.Rows.{CheckRows}
use Rattle.check_plan.specs.Samples.{count_of, sample_of}
use Rattle.check_plan.proofs.SetFacts.{class-same}
use Rattle.check_plan.proofs.checks.Checks.class_of.Goals as goal

pub returns : goal.returns
returns g c =
    let memory = g.K.Holds.memory c.args.kept.now in
    let sample = sample_of c.args.sample in
    let previous = option_map count_of c.args.previous in
    c.class_of.ensures ∙ (class-same c.self.inside.set c.self.inside.ocps.value.items c.self.invariant.types sample previous memory ∙
    ap (λ (rows : CheckRows). class_of rows.ocps sample previous memory) c.self.view_is)
