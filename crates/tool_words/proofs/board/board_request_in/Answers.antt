use Rattle.std.proofs.Common.{ap, subst, sym}
use Rattle.tool_words.specs.Behind.{asked_by}
use Rattle.tool_words.specs.Boards.{AsksBoard, board_asked, board_in}
use Rattle.tool_words.proofs.board.board_request_in.Goals as goal

pub returns-in-Some : goal.returns-in-Some
unfolding board_in
returns-in-Some c = subst (λ rest. AsksBoard c.board_behind.result (asked_by board_asked rest)) c.in-Some.ensures c.board_behind.ensures

pub returns-in-None : goal.returns-in-None
unfolding board_in
returns-in-None c = ap (asked_by board_asked) (sym c.in-None.ensures)
