use Rattle.std.proofs.Common.{◌++◌, subst, sym}
use Rattle.fold_state.specs.Boards.{memory_of}
use Rattle.line_sheets.specs.declared.reading.SheetWork.{SheetWork}
use Rattle.line_sheets.specs.Pieces.{played_one}
use Rattle.line_sheets.specs.Readings.{HasPlayed}
use Rattle.line_sheets.specs.Lying.{act_as}
use Rattle.line_sheets.specs.Sheets.{piece_of}
use Rattle.line_sheets.proofs.playing.play_one.Goals as goal

pub returns-in-Calm-clause-played : goal.returns-in-Calm-clause-played
returns-in-Calm-clause-played c = λ db plans made below.
    let board = c.args.board.now in
    subst (λ (w : SheetWork). HasPlayed (played_one db (piece_of board.names (act_as c.args.seat w)) (memory_of board)) (memory_of c.play_calm.new.board)
    (c.args.out.now ++ c.args.reading.now.pending) (c.play_calm.new.out ++ c.play_calm.new.reading.pending))
    (sym c.in-Calm.is) (c.play_calm.ensures.played db below)
