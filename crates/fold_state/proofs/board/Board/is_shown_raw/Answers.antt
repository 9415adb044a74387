use Rattle.std.proofs.Common.{◌∙◌, sym}
use Rattle.fold_state.specs.Boards.{memory_of}
use Rattle.fold_state.proofs.FinishFacts.{finish-plain-at}
use Rattle.fold_state.proofs.board.Board.is_shown_raw.Goals as goal

pub returns-then-seat-plain : goal.returns-then-seat-plain
returns-then-seat-plain c = λ shown db params marks plans made at.
    let mark = sym (marks c.args.seat c.if-seat-plain.true) ∙ shown in
    finish-plain-at db (memory_of c.args.self.now) c.args.value.now params c.args.self.now c.args.seat plans made at mark
