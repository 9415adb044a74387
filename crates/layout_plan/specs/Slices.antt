-- What a layout is compiled of. [SCOS-2000 Database Import ICD, pid, plf and pcf.]
use Rattle.std.specs.Prelude.{List}
use Rattle.mib_model.specs.declared.plan.TypeItem.{TypeItem}
use Rattle.mib_model.specs.declared.rows.PidRow.{PidRow}
use Rattle.mib_model.specs.declared.rows.PlfRow.{PlfRow}

-- a packet's row of pid, its rows of plf in file order, and the type items of their names
pub record LayoutRows : Type 0 where
  pub pid : PidRow
  pub plfs : List PlfRow
  pub types : List TypeItem
