use Rattle.std.proofs.Common.{◌≡◌, ◌∙◌, ℕ, ◌<◌, List, length, ap, arith}
use Rattle.std.proofs.lemmas.List.FromFn.{length-map-range_with_len}
use Rattle.mib_model.specs.Kept.{Memory}
use Rattle.fold_state.specs.Boards.{memory_of}
use Rattle.display_pages.specs.declared.page.Cell.{Cell}
use Rattle.display_pages.specs.Pages.{cell_of}
use Rattle.page_board.specs.Sheets.{cell_at, cells_in}
use Rattle.page_watch.proofs.LayFacts.{laid-all, laid-next}
use Rattle.page_watch.proofs.laying.lay_cells.Goals as goal

pub loop-place-preserved : goal.loop-place-preserved
loop-place-preserved c =
    let were = c.loop-place.invariant in
    let memory : Memory = memory_of c.args.board.now in
    let old : List ℕ = c.args.sheet.now in
    let place : ℕ = c.loop-place.place in
    let within : place < length c.args.names.now = c.loop-place-test.true in
    let few = c.requires in
    let long = length-map-range_with_len (cell_at old) 0 64 in
    let inside : place < length (cells_in old) = omega (arith, within, few, long) in
    let shown = c.latest_and_spoken-raw in
    let cell : Cell = record { raw = shown.result.0; spoken = shown.result.1 } in
    let is : cell ≡ cell_of memory c.index-names-place.result = λ k. record { raw = shown.ensures.latest k; spoken = shown.ensures.spoken k } in
    let next = laid-next (cell_of memory) c.args.names.now c.index-names-place.result (cells_in c.loop-place.sheet) (cells_in old) place cell within inside
    (is ∙ ap (cell_of memory) c.index-names-place.is) were.cells in record {
      cells = c.lay_cell.ensures.cells ∙ next;
      number = c.lay_cell.ensures.number ∙ were.number;
      edition = c.lay_cell.ensures.edition ∙ were.edition;
    }

pub returns-clause-cells : goal.returns-clause-cells
returns-clause-cells c =
    let out = c.loop-place-test.false in let end = c.loop-place.auto.place-end in
    c.loop-place.invariant.cells ∙ laid-all (cell_of (memory_of c.args.board.now)) c.args.names.now (cells_in c.args.sheet.now) c.loop-place.place (omega (arith, out, end))
