use Rattle.std.proofs.Common.{◌∙◌, List, ap, arith}
use Rattle.std.proofs.lemmas.List.{length-set}
use Rattle.display_pages.specs.declared.page.Cell.{Cell}
use Rattle.page_board.specs.Sheets.{page_in}
use Rattle.page_board.proofs.SheetFacts.{cell-set, cells-are}
use Rattle.page_board.proofs.sheet.page_of.Goals as goal

pub loop-place-preserved : goal.loop-place-preserved
loop-place-preserved c =
    let is = c.loop-place.invariant in record {
      done = cell-set c.args.sheet.now c.loop-place.cells c.loop-place.place c.cell_at.result is.long c.loop-place-test.true c.cell_at.ensures is.done;
      long = length-set c.loop-place.cells c.loop-place.place c.cell_at.result ∙ is.long;
    }

pub returns : goal.returns
returns c =
    let is = c.loop-place.invariant in let out = c.loop-place-test.false in
    let same = cells-are c.args.sheet.now c.loop-place.cells is.long (λ i b. is.done i (omega (arith, b, out))) in
    ap (λ (cells : List Cell). record (page_in c.args.sheet.now) { cells = cells }) same
