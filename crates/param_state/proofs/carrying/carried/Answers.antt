use Rattle.std.proofs.Common.{◌∙◌, sym, ap}
use Rattle.param_plan.specs.Slices.{ParamSlice}
use Rattle.param_state.specs.SlotViews.{kept_as}
use Rattle.param_state.proofs.CarriedFacts.{carried-same, carry-nothing, carry-other, carry-same}
use Rattle.param_state.proofs.carrying.carried.Goals as goal

pub returns-then-is_vacant : goal.returns-then-is_vacant
returns-then-is_vacant c = λ before after memory name kept was is.
    let none = c.is_vacant.ensures c.if-is_vacant.true in
    none ∙ sym (carry-nothing memory before after name (sym kept ∙ none))

pub returns-then-not-stays : goal.returns-then-not-stays
returns-then-not-stays c = λ before after memory name kept was is.
    let other = sym (carried-same before after name c.args.old.now c.args.new.now was is) ∙ (sym c.stays.ensures ∙ c.if-not-stays.true) in
    ap kept_as c.new.ensures ∙ sym (carry-other memory before after name other)

pub returns : goal.returns
returns c = λ before after memory name kept was is.
    let same = sym (carried-same before after name c.args.old.now c.args.new.now was is) ∙ (sym c.stays.ensures ∙ c.if-not-stays.false) in
    c.held.ensures ∙ carry-same memory before after name (kept_as c.args.kept.now) c.rows.result.now.ocf same kept (ap (λ (t : ParamSlice). t.ocf) c.rows.ensures ∙ is.ocf)
