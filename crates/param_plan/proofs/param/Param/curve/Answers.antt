use Rattle.std.proofs.Common.{◌∙◌, sym, ap}
use Rattle.std.specs.Option.{option_copied}
use Rattle.param_plan.specs.Choices.{only_curve}
use Rattle.param_plan.specs.Slices.{ParamSlice}
use Rattle.param_plan.proofs.ChoiceFacts.{chosen-same}
use Rattle.param_plan.proofs.param.Param.curve.Goals as goal

pub returns-in-None : goal.returns-in-None
returns-in-None g c =
    let memory = g.K.Holds.memory c.args.kept.now in
    let s = c.args.self.now in
    let only = sym c.self.invariant.curtx ∙ (sym c.curve.ensures ∙ ap option_copied c.in-None.is) in
    c.selected_curve.ensures ∙ chosen-same memory s.pcf.curtx s.curs s.curves (sym (ap (λ (s : ParamSlice). only_curve s.pcf.curtx s.curves) c.self.view_is) ∙ only)
