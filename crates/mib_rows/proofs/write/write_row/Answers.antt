use Rattle.mib_rows.proofs.LawFacts.{again_if}
use Rattle.mib_rows.proofs.write.write_row.Goals as goal

pub returns-clause-again : goal.returns-clause-again
returns-clause-again c = again_if (λ line. line.items) c.line_of_row.result c.args.row.now c.line_of_row.ensures
