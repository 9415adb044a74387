use Rattle.std.proofs.Common.{◌∙◌, sym}
use Rattle.mib_tables.proofs.TableFacts.{back}
use Rattle.mib_tables.proofs.table.Table.fill.Goals as goal

pub returns-clause-rows : goal.returns-clause-rows
returns-clause-rows g c = c.in_ok-self.ensures ∙ sym (back g.R.TableRow.as_row g.R.TableRow.from_row g.met.R.TableRow.back c.args.rows.items)
