use Rattle.std.proofs.Common.{◌≡◌, ◌<◌, [], Some, get_or, length, map, refl, subst, sym}
use Rattle.fold_state.specs.Boards.{Slots, place_of}
use Rattle.param_state.specs.SlotViews.{slot_name}
use Rattle.fold_state.specs.Opened.{name_at}
use Rattle.fold_state.proofs.BoardFacts.{place-risen}
use Rattle.fold_state.proofs.board.Board.named.Goals as goal

pub returns-clause-place : goal.returns-clause-place
returns-clause-place c =
    let names = map slot_name c.self.inside.slots.items in
    let below = subst (λ (b : Slots). c.args.seat < length b.names) (sym c.self.view_is) c.requires in
    subst (λ (b : Slots). place_of b (name_at b c.args.seat) ≡ Some c.args.seat) c.self.view_is
    (place-risen names (get_or names c.args.seat []) c.args.seat c.self.invariant below refl)
