use Rattle.std.proofs.Common.{◌∙◌, ap}
use Rattle.fold_state.specs.Boards.{Slots, board_of, memory_of, place_of}
use Rattle.fold_state.proofs.BoardFacts.{kept-at, slots-long}
use Rattle.fold_state.proofs.board.Board.slot.Goals as goal

pub returns : goal.returns
returns c = λ name at.
    let slots = c.self.inside.slots.items in
    kept-at (board_of slots) name c.args.at c.index.result.now (slots-long slots) (ap (λ (b : Slots). place_of b name) c.self.view_is ∙ at) c.index.ensures ∙
    ap (λ (b : Slots). memory_of b name) c.self.view_is
