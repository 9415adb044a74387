use Rattle.fold_state.specs.Boards.{memory_of}
use Rattle.fold_state.proofs.EnterFacts.{quiet-entered}
use Rattle.fold_state.proofs.ServeFacts.{finished-for, quiet-told}
use Rattle.fold_state.proofs.board.Board.finish_values.Goals as goal

pub returns-then-are_quiet-clause-finished : goal.returns-then-are_quiet-clause-finished
returns-then-are_quiet-clause-finished c = λ asked db m stands.
    let values = c.args.seen.now.values.now in
    let board = c.args.self.now in
    let quiet = c.are_quiet.ensures c.if-are_quiet.true in
    let told = quiet-told asked db c.args.params.now c.args.demands.now board values m stands quiet in
    finished-for asked db c.args.params.now c.args.demands.now board values m stands board c.args.seen.now.packet.now (memory_of board) c.args.out.now c.add_plain_values.new.out
    (quiet-entered c.args.demands.now values board quiet) (c.add_plain_values.ensures.finished db (memory_of board) told)
