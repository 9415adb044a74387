use Rattle.std.proofs.Common.{◌≡◌, ◌∙◌, ◌<◌, [], Some, length, get_or, map, sym, subst, arith}
use Rattle.fold_state.specs.Boards.{Slots, place_of}
use Rattle.param_state.specs.SlotViews.{slot_name}
use Rattle.fold_state.proofs.BoardFacts.{name-at, place-risen, slots-long}
use Rattle.param_state.proofs.NamedFacts.{same-name}
use Rattle.fold_state.proofs.board.Board.is_at.Goals as goal

pub returns-then-at-len : goal.returns-then-at-len
returns-then-at-len c = λ equal.
    let slots = c.self.inside.slots.items in
    let at = c.args.at in
    let below : at < length slots = omega (arith, c.if-at-len.true, c.len.ensures) in
    let long = slots-long slots in
    let within : at < length (map slot_name slots) = omega (arith, below, long) in
    let here : get_or (map slot_name slots) at [] ≡ c.args.name.now = name-at slots at c.index.result.now below c.index.ensures ∙ same-name c.index.result.now.name c.args.name.now (sym c.eq.ensures ∙ equal) in
    subst (λ (b : Slots). place_of b c.args.name.now ≡ Some at) c.self.view_is (place-risen (map slot_name slots) c.args.name.now at c.self.invariant within here)
