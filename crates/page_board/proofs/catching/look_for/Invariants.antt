use Rattle.std.proofs.Common.{◌≡◌}
use Rattle.page_board.specs.Ends.{known_by, board_seen_by}
use Rattle.page_board.specs.Views.{BeginsWith}
use Rattle.page_board.proofs.catching.look_for.Given as goal

abbrev pub invariant-loop : goal.invariant-loop
invariant-loop g l = record {
  told : (known_by l.viewer).told ≡ (known_by l.initial.viewer).told;
  board : board_seen_by l.viewer ≡ board_seen_by l.initial.viewer;
  later : BeginsWith (known_by l.viewer).seen (known_by l.initial.viewer).seen;
}
