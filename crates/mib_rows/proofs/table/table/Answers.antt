use Rattle.mib_rows.proofs.TableFacts.{table-given}
use Rattle.mib_rows.proofs.table.table.Goals as goal

pub returns : goal.returns
returns g c =
    table-given g.R.TableRow.as_row g.R.TableRow.kind g.R.ReadRow.reads g.met.R.ReadRow.is_row (λ rows. rows.items) c.args.text.now c.rows.result
    c.if-text-gt-TABLE_MOST.false c.if-begins_with_mark.ensures c.rows.ensures
