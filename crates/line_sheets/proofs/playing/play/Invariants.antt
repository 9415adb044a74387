use Rattle.std.proofs.Common.{◌≡◌, ◌≤◌, ◌+◌, length}
use Rattle.fold_state.specs.Boards.{memory_of}
use Rattle.param_state.specs.ParamPlans.{plan_names, IsParamsOf}
use Rattle.mib_model.specs.declared.database.Database.{Database}
use Rattle.record_text.specs.declared.lines.TheConstants.{LINES_ROOM, LINE_MOST}
use Rattle.line_sheets.specs.Playing.{GoesOn, most_size}
use Rattle.line_sheets.specs.Sheets.{AreSeated}
use Rattle.line_sheets.proofs.playing.play.Given as goal

abbrev pub invariant-loop-seat : goal.invariant-loop-seat
invariant-loop-seat l = record {
  names : l.board.names ≡ l.initial.board.names;
  played : (db : Database) → IsParamsOf db l.params → l.initial.board.names ≡ plan_names l.params → AreSeated l.initial.board.names l.initial.reading.left.runs
      → GoesOn db l.initial.board.names l.initial.reading l.reading l.initial.out l.out (memory_of l.initial.board) (memory_of l.board);
  room : most_size l.out l.reading + LINE_MOST ≤ LINES_ROOM;
}

abbrev pub decreases-loop-seat : goal.decreases-loop-seat
decreases-loop-seat l = length l.reading.left.runs
