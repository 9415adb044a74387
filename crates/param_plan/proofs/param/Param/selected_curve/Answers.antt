use Rattle.std.proofs.Common.{◌∙◌, sym, ap, List, option_and_then, find}
use Rattle.param_plan.specs.declared.choice.Selection.{Selection}
use Rattle.param_plan.specs.Choices.{is_met, selections_in}
use Rattle.param_plan.specs.Slices.{ParamSlice}
use Rattle.param_plan.proofs.param.Param.selected_curve.Goals as goal

pub returns-then-self : goal.returns-then-self
returns-then-self g c =
    let memory = g.K.Holds.memory c.args.kept.now in
    let chosen : List Selection → _ = λ selections. option_and_then (λ selection. selection.choice) (find (is_met memory) selections) in
    ap chosen (sym (c.self.invariant.none c.if-self.true) ∙ c.self.invariant.curs) ∙
    ap (λ (s : ParamSlice). chosen (selections_in s.pcf.curtx s.curs s.curves)) c.self.view_is

pub returns : goal.returns
returns g c =
    let memory = g.K.Holds.memory c.args.kept.now in
    let chosen : List Selection → _ = λ selections. option_and_then (λ selection. selection.choice) (find (is_met memory) selections) in
    c.selected_by.ensures ∙ (ap chosen (c.deref.ensures.value ∙ c.self.invariant.curs) ∙
    ap (λ (s : ParamSlice). chosen (selections_in s.pcf.curtx s.curs s.curves)) c.self.view_is)
