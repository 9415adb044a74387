-- The tables that are searched together. [SCOS-2000 Database Import ICD, monitoring tables.]
use Rattle.std.specs.Prelude.{List}
use Rattle.mib_model.specs.declared.rows.CafRow.{CafRow}
use Rattle.mib_model.specs.declared.rows.CapRow.{CapRow}
use Rattle.mib_model.specs.declared.rows.CurRow.{CurRow}
use Rattle.mib_model.specs.declared.rows.LgfRow.{LgfRow}
use Rattle.mib_model.specs.declared.rows.McfRow.{McfRow}
use Rattle.mib_model.specs.declared.rows.OcfRow.{OcfRow}
use Rattle.mib_model.specs.declared.rows.OcpRow.{OcpRow}
use Rattle.mib_model.specs.declared.rows.PicRow.{PicRow}
use Rattle.mib_model.specs.declared.rows.PidRow.{PidRow}
use Rattle.mib_model.specs.declared.rows.TpcfRow.{TpcfRow}
use Rattle.mib_model.specs.declared.rows.TxfRow.{TxfRow}
use Rattle.mib_model.specs.declared.rows.TxpRow.{TxpRow}

-- packets, the criteria by which they are told apart, and their names
pub record PacketTables : Type 0 where
  pub pid : List PidRow
  pub pic : List PicRow
  pub tpcf : List TpcfRow

-- selections of curves, and curves by points, texts, coefficients and logarithms
pub record CurveTables : Type 0 where
  pub cur : List CurRow
  pub caf : List CafRow
  pub cap : List CapRow
  pub txf : List TxfRow
  pub txp : List TxpRow
  pub mcf : List McfRow
  pub lgf : List LgfRow

-- checks, and their limits
pub record CheckTables : Type 0 where
  pub ocf : List OcfRow
  pub ocp : List OcpRow
