-- Rows by their tables: the typed row that a row is, and the database of 15 lists of rows.
use Rattle.std.specs.Prelude.{List, filter_map, Option, Some, None}
use Rattle.mib_model.specs.declared.kind.Kind.{Kind}
use Rattle.mib_model.specs.declared.kind.Kind.TheVariants as kind
use Rattle.mib_model.specs.declared.rows.Row.{Row}
use Rattle.mib_model.specs.declared.rows.Row.TheVariants as row
use Rattle.mib_model.specs.declared.rows.PcfRow.{PcfRow}
use Rattle.mib_model.specs.declared.rows.PidRow.{PidRow}
use Rattle.mib_model.specs.declared.rows.PicRow.{PicRow}
use Rattle.mib_model.specs.declared.rows.TpcfRow.{TpcfRow}
use Rattle.mib_model.specs.declared.rows.PlfRow.{PlfRow}
use Rattle.mib_model.specs.declared.rows.VpdRow.{VpdRow}
use Rattle.mib_model.specs.declared.rows.CurRow.{CurRow}
use Rattle.mib_model.specs.declared.rows.CafRow.{CafRow}
use Rattle.mib_model.specs.declared.rows.CapRow.{CapRow}
use Rattle.mib_model.specs.declared.rows.TxfRow.{TxfRow}
use Rattle.mib_model.specs.declared.rows.TxpRow.{TxpRow}
use Rattle.mib_model.specs.declared.rows.McfRow.{McfRow}
use Rattle.mib_model.specs.declared.rows.LgfRow.{LgfRow}
use Rattle.mib_model.specs.declared.rows.OcfRow.{OcfRow}
use Rattle.mib_model.specs.declared.rows.OcpRow.{OcpRow}
use Rattle.mib_model.specs.Database.{Database}

-- the row of pcf that a row is, if it is one
abbrev pub as_pcf : Row → Option PcfRow
as_pcf (row.Pcf r) = Some r
as_pcf other = None

-- the row of pid that a row is, if it is one
abbrev pub as_pid : Row → Option PidRow
as_pid (row.Pid r) = Some r
as_pid other = None

-- the row of pic that a row is, if it is one
abbrev pub as_pic : Row → Option PicRow
as_pic (row.Pic r) = Some r
as_pic other = None

-- the row of tpcf that a row is, if it is one
abbrev pub as_tpcf : Row → Option TpcfRow
as_tpcf (row.Tpcf r) = Some r
as_tpcf other = None

-- the row of plf that a row is, if it is one
abbrev pub as_plf : Row → Option PlfRow
as_plf (row.Plf r) = Some r
as_plf other = None

-- the row of vpd that a row is, if it is one
abbrev pub as_vpd : Row → Option VpdRow
as_vpd (row.Vpd r) = Some r
as_vpd other = None

-- the row of cur that a row is, if it is one
abbrev pub as_cur : Row → Option CurRow
as_cur (row.Cur r) = Some r
as_cur other = None

-- the row of caf that a row is, if it is one
abbrev pub as_caf : Row → Option CafRow
as_caf (row.Caf r) = Some r
as_caf other = None

-- the row of cap that a row is, if it is one
abbrev pub as_cap : Row → Option CapRow
as_cap (row.Cap r) = Some r
as_cap other = None

-- the row of txf that a row is, if it is one
abbrev pub as_txf : Row → Option TxfRow
as_txf (row.Txf r) = Some r
as_txf other = None

-- the row of txp that a row is, if it is one
abbrev pub as_txp : Row → Option TxpRow
as_txp (row.Txp r) = Some r
as_txp other = None

-- the row of mcf that a row is, if it is one
abbrev pub as_mcf : Row → Option McfRow
as_mcf (row.Mcf r) = Some r
as_mcf other = None

-- the row of lgf that a row is, if it is one
abbrev pub as_lgf : Row → Option LgfRow
as_lgf (row.Lgf r) = Some r
as_lgf other = None

-- the row of ocf that a row is, if it is one
abbrev pub as_ocf : Row → Option OcfRow
as_ocf (row.Ocf r) = Some r
as_ocf other = None

-- the row of ocp that a row is, if it is one
abbrev pub as_ocp : Row → Option OcpRow
as_ocp (row.Ocp r) = Some r
as_ocp other = None

-- the database of 15 lists of rows
abbrev pub database_by : (Kind → List Row) → Database
database_by rows = record {
  pcf = filter_map as_pcf (rows kind.Pcf);
  pid = filter_map as_pid (rows kind.Pid);
  pic = filter_map as_pic (rows kind.Pic);
  tpcf = filter_map as_tpcf (rows kind.Tpcf);
  plf = filter_map as_plf (rows kind.Plf);
  vpd = filter_map as_vpd (rows kind.Vpd);
  cur = filter_map as_cur (rows kind.Cur);
  caf = filter_map as_caf (rows kind.Caf);
  cap = filter_map as_cap (rows kind.Cap);
  txf = filter_map as_txf (rows kind.Txf);
  txp = filter_map as_txp (rows kind.Txp);
  mcf = filter_map as_mcf (rows kind.Mcf);
  lgf = filter_map as_lgf (rows kind.Lgf);
  ocf = filter_map as_ocf (rows kind.Ocf);
  ocp = filter_map as_ocp (rows kind.Ocp);
}
