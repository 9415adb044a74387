use Rattle.std.proofs.Common.{◌∙◌, ap, map}
use Rattle.param_state.specs.SlotViews.{slot_name}
use Rattle.fold_state.proofs.BoardFacts.{names-vacant}
use Rattle.fold_state.proofs.room.BoardRoom.into_board.Goals as goal

pub returns : goal.returns
returns c = ap (map slot_name) c.slots_for.ensures.slots ∙ names-vacant c.args.params.now
