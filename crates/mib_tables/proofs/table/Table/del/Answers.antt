use Rattle.std.proofs.Common.{Some, None, sym}
use Rattle.mib_tables.proofs.TableFacts.{taken_there, held_by}
use Rattle.mib_tables.proofs.table.Table.del.Goals as goal

pub returns-in_ok-remove-in-Some-clause-held : goal.returns-in_ok-remove-in-Some-clause-held
returns-in_ok-remove-in-Some-clause-held g c =
    sym (held_by g.R.TableRow.as_row g.R.TableRow.from_row g.met.R.TableRow.back c.args.self.now c.args.key.now (Some c.in-Some.place) (rw c.rows.ensures.rows at c.in-Some.ensures))

pub returns-in_ok-remove-in-Some-clause-rows : goal.returns-in_ok-remove-in-Some-clause-rows
returns-in_ok-remove-in-Some-clause-rows g c =
    rw (c.in_ok-remove-in-Some.ensures.row, c.self.view_is)
    (taken_there g.R.TableRow.as_row g.R.TableRow.from_row g.met.R.TableRow.back c.args.self.now c.args.key.now c.in-Some.place (rw c.rows.ensures.rows at c.in-Some.ensures))

pub returns-in-None-clause-missing : goal.returns-in-None-clause-missing
returns-in-None-clause-missing g c _ =
    sym (held_by g.R.TableRow.as_row g.R.TableRow.from_row g.met.R.TableRow.back c.args.self.now c.args.key.now None (rw c.rows.ensures.rows at c.in-None.ensures))
