use Rattle.std.proofs.Common.{◌∙◌, List, ℕ, sym, ap}
use Rattle.param_state.specs.SlotViews.{kept_as}
use Rattle.fold_state.specs.Boards.{memory_of, place_of}
use Rattle.fold_state.proofs.BoardFacts.{kept-missing}
use Rattle.param_state.proofs.CarriedFacts.{carry-nothing}
use Rattle.fold_state.proofs.carry.kept_for.Goals as goal

pub returns-in-None : goal.returns-in-None
returns-in-None c = λ before after plans made was.
    let old = c.args.old.now in
    let name = c.args.plan.now.pcf.name in
    let none = ap (λ (n : List ℕ). place_of old n) (sym c.name-name.ensures) ∙ sym c.place.ensures ∙ c.in-None.is in
    ap kept_as c.new.ensures ∙ sym (carry-nothing (memory_of old) before after name (kept-missing old name none))
