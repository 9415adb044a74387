use Rattle.std.proofs.Common.{rules}
use Rattle.page_board.proofs.SheetFacts.{cell-laid, marks-apart}
use Rattle.page_board.proofs.sheet.lay_cell.Goals as goal

pub returns-clause-cells : goal.returns-clause-cells
returns-clause-cells c =
    let raw = c.mark_of_raw-mark in let class = c.mark_of_class in
    cell-laid c.args.sheet.now c.args.place raw.result.1 _ c.args.cell c.requires.place (search rules)
    (marks-apart raw.result.1 raw.result.0 class.result c.args.cell class.ensures.below raw.ensures.raw class.ensures.class)
