use Rattle.page_board.proofs.SheetFacts.{head-beside}
use Rattle.page_board.proofs.sheet.lay_head.Goals as goal

pub returns-clause-cells : goal.returns-clause-cells
returns-clause-cells c = head-beside c.args.sheet.now c.args.number c.from.result
