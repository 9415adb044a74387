use Rattle.std.proofs.Common.{◌∙◌, ap}
use Rattle.fold_state.specs.Boards.{memory_of}
use Rattle.mib_model.specs.Kept.{keeping}
use Rattle.fold_state.proofs.board.Board.keep_at.Goals as goal

pub returns-clause-memory : goal.returns-clause-memory
returns-clause-memory c = λ before after name at was is.
    let memory = memory_of c.args.self.now in
    c.set_slot.ensures.memory name at ∙ ap (keeping memory name) (c.carried-slot.ensures before after memory name (c.slot.ensures name at) was is)
