use Rattle.std.proofs.Common.{◌≡◌, ◌++◌, drop, map, slice_index, take}
use Rattle.fold_state.specs.Boards.{memory_of}
use Rattle.display_pages.specs.Pages.{cell_of}
use Rattle.page_board.specs.Sheets.{cells_in}
use Rattle.page_watch.proofs.laying.lay_cells.Given as goal

abbrev pub invariant-loop-place : goal.invariant-loop-place
invariant-loop-place l = record {
  cells : cells_in l.sheet ≡ map (cell_of (memory_of l.board)) (take l.place l.names) ++ drop l.place (cells_in l.initial.sheet);
  number : slice_index l.sheet 0 ≡ slice_index l.initial.sheet 0;
  edition : slice_index l.sheet 1 ≡ slice_index l.initial.sheet 1;
}
