-- The rows of one table in memory.
use Rattle.std.specs.Prelude.{List, map}
use Rattle.mib_model.specs.declared.kind.Kind.{Kind}
use Rattle.mib_model.specs.declared.kind.Kind.TheVariants as kind
use Rattle.mib_model.specs.declared.rows.Row.{Row}
use Rattle.mib_model.specs.declared.rows.Row.TheVariants as row
use Rattle.mib_model.specs.declared.tables.TableRows.{TableRows}
use Rattle.mib_model.specs.declared.tables.TableRows.TheVariants as table

-- the table that some rows are of
abbrev pub kind_held : TableRows → Kind
kind_held (table.Pcf rows) = kind.Pcf
kind_held (table.Pid rows) = kind.Pid
kind_held (table.Pic rows) = kind.Pic
kind_held (table.Tpcf rows) = kind.Tpcf
kind_held (table.Plf rows) = kind.Plf
kind_held (table.Vpd rows) = kind.Vpd
kind_held (table.Cur rows) = kind.Cur
kind_held (table.Caf rows) = kind.Caf
kind_held (table.Cap rows) = kind.Cap
kind_held (table.Txf rows) = kind.Txf
kind_held (table.Txp rows) = kind.Txp
kind_held (table.Mcf rows) = kind.Mcf
kind_held (table.Lgf rows) = kind.Lgf
kind_held (table.Ocf rows) = kind.Ocf
kind_held (table.Ocp rows) = kind.Ocp

-- the rows of a table, as rows of any table
abbrev pub rows_held : TableRows → List Row
rows_held (table.Pcf rows) = map row.Pcf rows.items
rows_held (table.Pid rows) = map row.Pid rows.items
rows_held (table.Pic rows) = map row.Pic rows.items
rows_held (table.Tpcf rows) = map row.Tpcf rows.items
rows_held (table.Plf rows) = map row.Plf rows.items
rows_held (table.Vpd rows) = map row.Vpd rows.items
rows_held (table.Cur rows) = map row.Cur rows.items
rows_held (table.Caf rows) = map row.Caf rows.items
rows_held (table.Cap rows) = map row.Cap rows.items
rows_held (table.Txf rows) = map row.Txf rows.items
rows_held (table.Txp rows) = map row.Txp rows.items
rows_held (table.Mcf rows) = map row.Mcf rows.items
rows_held (table.Lgf rows) = map row.Lgf rows.items
rows_held (table.Ocf rows) = map row.Ocf rows.items
rows_held (table.Ocp rows) = map row.Ocp rows.items
