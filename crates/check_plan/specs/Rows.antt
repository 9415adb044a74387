-- What the checks of a parameter are compiled of. [SCOS-2000 Database Import ICD, ocf and ocp.]
use Rattle.std.specs.Prelude.{List}
use Rattle.mib_model.specs.declared.rows.OcfRow.{OcfRow}
use Rattle.mib_model.specs.declared.rows.OcpRow.{OcpRow}

-- a parameter's row of ocf, and its rows of ocp by POS
pub record CheckRows : Type 0 where
  pub ocf : OcfRow
  pub ocps : List OcpRow
