use Rattle.std.proofs.Common.{◌≡◌, ℕ, ◌<◌, get_or, length}
use Rattle.display_pages.specs.Pages.{no_cell}
use Rattle.page_board.specs.Sheets.{cell_at}
use Rattle.page_board.proofs.sheet.page_of.Given as goal

abbrev pub invariant-loop-place : goal.invariant-loop-place
invariant-loop-place l = record {
  done : (i : ℕ) → i < l.place → get_or l.cells i no_cell ≡ cell_at l.sheet i;
  long : length l.cells ≡ 64;
}
