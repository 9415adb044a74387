use Rattle.std.proofs.Common.{ap, Some, None}
use Rattle.mib_model.specs.Keys.{key_in}
use Rattle.mib_tables.specs.Puts.{put_made}
use Rattle.mib_tables.proofs.TableFacts.{put_there, put_behind, held_by}
use Rattle.mib_tables.proofs.table.Table.put.Goals as goal

pub returns-in_ok-set-in-Some-clause-rows : goal.returns-in_ok-set-in-Some-clause-rows
returns-in_ok-set-in-Some-clause-rows g c =
    rw (c.in_ok-set-in-Some.ensures.row, c.self.view_is) (put_there g.R.TableRow.as_row g.R.TableRow.from_row g.met.R.TableRow.back c.args.self.now c.args.row c.in-Some.place
    (rw (c.rows.ensures.rows, c.key-key.ensures, c.to_row.ensures) at c.in-Some.ensures))

pub returns-in_ok-set-in-Some-clause-made : goal.returns-in_ok-set-in-Some-clause-made
returns-in_ok-set-in-Some-clause-made g c =
    ap put_made (held_by g.R.TableRow.as_row g.R.TableRow.from_row g.met.R.TableRow.back c.args.self.now (key_in (g.R.TableRow.as_row c.args.row)) (Some c.in-Some.place)
    (rw (c.rows.ensures.rows, c.key-key.ensures, c.to_row.ensures) at c.in-Some.ensures))

pub returns-in_ok-push-in-None-clause-rows : goal.returns-in_ok-push-in-None-clause-rows
returns-in_ok-push-in-None-clause-rows g c =
    rw (c.in_ok-push-in-None.ensures.row, c.self.view_is) (put_behind g.R.TableRow.as_row g.R.TableRow.from_row g.met.R.TableRow.back c.args.self.now c.args.row
    (rw (c.rows.ensures.rows, c.key-key.ensures, c.to_row.ensures) at c.in-None.ensures))

pub returns-in_ok-push-in-None-clause-made : goal.returns-in_ok-push-in-None-clause-made
returns-in_ok-push-in-None-clause-made g c =
    ap put_made (held_by g.R.TableRow.as_row g.R.TableRow.from_row g.met.R.TableRow.back c.args.self.now (key_in (g.R.TableRow.as_row c.args.row)) None
    (rw (c.rows.ensures.rows, c.key-key.ensures, c.to_row.ensures) at c.in-None.ensures))
