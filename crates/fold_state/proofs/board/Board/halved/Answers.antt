use Rattle.std.proofs.Common.{◌≡◌, ◌∙◌, ◌<◌, Equal, Less, List, [], ℕ, length, get_or, map, ap, sym, subst, arith, rules}
use Rattle.std.proofs.lemmas.List.{get_or-map}
use Rattle.std.proofs.lemmas.List.Sorted.{answers_always}
use Rattle.std.specs.Cmp.Lexicographic.{slice_cmp}
use Rattle.std.specs.Ordering.{nat_cmp}
use Rattle.std.specs.Str.{bytes_eq}
use Rattle.param_plan.proofs.NameFacts.{named-nowhere}
use Rattle.param_plan.proofs.PlanFacts.{adjacent-map}
use Rattle.param_state.specs.declared.slot.ParamSlot.{ParamSlot}
use Rattle.fold_state.specs.Boards.{Slots, place_of}
use Rattle.param_state.specs.ParamPlans.{is_name_of}
use Rattle.param_state.specs.SlotViews.{slot_name, vacant}
use Rattle.fold_state.proofs.BoardFacts.{name-tied, place-nowhere, place-risen, slots-long}
use Rattle.fold_state.proofs.board.Board.halved.Goals as goal

pub returns-in-Ok : goal.returns-in-Ok
returns-in-Ok c =
    let name = c.args.name in
    let slots = c.self.inside.slots.items in
    let at = c.in-Ok.at in
    let d = vacant [] in
    let below : at < length slots = subst (λ (xs : List ParamSlot). at < length xs) c.deref.ensures.value c.in-Ok.ensures.bound in
    let by_key = c.in-Ok.ensures.position slot_name (answers_always _ _ _ (λ f a r g called. search rules)) in
    let same : slice_cmp nat_cmp (slot_name (get_or slots at d)) name ≡ Equal =
    subst (λ (xs : List ParamSlot). slice_cmp nat_cmp (slot_name (get_or xs at d)) name ≡ Equal) c.deref.ensures.value (by_key d) in
    let here : get_or (map slot_name slots) at [] ≡ name = get_or-map slot_name slots at d [] below ∙ name-tied (slot_name (get_or slots at d)) name same in
    let long = slots-long slots in
    let within : at < length (map slot_name slots) = omega (arith, below, long) in
    sym (place-risen (map slot_name slots) name at c.self.invariant within here) ∙ ap (λ (b : Slots). place_of b name) c.self.view_is

pub returns-in-Err : goal.returns-in-Err
returns-in-Err c =
    let name = c.args.name in
    let slots = c.self.inside.slots.items in
    let d = vacant [] in
    let by_key = c.in-Err.ensures.position slot_name (answers_always _ _ _ (λ f a r g called. search rules)) in
    let rise = adjacent-map slot_name (λ (x y : List ℕ). slice_cmp nat_cmp x y ≡ Less) slots c.self.invariant in
    let none = named-nowhere slot_name name slots rise c.in-Err.field-0 (rw c.deref.ensures.value at by_key) in
    let long = slots-long slots in
    sym (place-nowhere (is_name_of name) (map slot_name slots) [] (λ k below.
    let within : k < length slots = omega (arith, below, long) in
    ap (λ (x : List ℕ). bytes_eq x name) (get_or-map slot_name slots k d [] within) ∙ none k d within)) ∙ ap (λ (b : Slots). place_of b name) c.self.view_is
