use Rattle.std.proofs.Common.{◌∙◌, List, map, ap}
use Rattle.param_state.specs.declared.slot.ParamSlot.{ParamSlot}
use Rattle.fold_state.specs.Boards.{board_of, memory_of}
use Rattle.param_state.specs.SlotViews.{slot_name}
use Rattle.fold_state.proofs.BoardFacts.{kept-none, names-vacant}
use Rattle.fold_state.proofs.board.Board.new.Goals as goal

pub returns-clause-names : goal.returns-clause-names
returns-clause-names c = ap (map slot_name) c.slots_for-slots.ensures.slots ∙ names-vacant c.args.params.now

pub returns-clause-memory : goal.returns-clause-memory
returns-clause-memory c = λ i name. (ap (λ (slots : List ParamSlot). memory_of (board_of slots) name) c.slots_for-slots.ensures.slots ∙ kept-none c.args.params.now name) i
