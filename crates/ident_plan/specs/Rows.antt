-- The rows that identification was compiled of. [SCOS-2000 Database Import ICD, pid and pic.]
use Rattle.std.specs.Prelude.{List, Bool, is_some}
use Rattle.mib_model.specs.declared.rows.PicRow.{PicRow}
use Rattle.mib_model.specs.declared.rows.PidRow.{PidRow}

-- all rows of pid and of pic, in file order
pub record IdentRows : Type 0 where
  pub pids : List PidRow
  pub pics : List PicRow

-- whether a row of pic is of an APID of its own
abbrev pub has_apid : PicRow → Bool
has_apid row = is_some row.apid
