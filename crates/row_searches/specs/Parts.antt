-- A database by the tables that are searched together. [SCOS-2000 Database Import ICD, monitoring tables.]
use Rattle.std.specs.Prelude.{List}
use Rattle.mib_model.specs.declared.database.Database.{Database}
use Rattle.mib_model.specs.declared.rows.PcfRow.{PcfRow}
use Rattle.mib_model.specs.declared.rows.PlfRow.{PlfRow}
use Rattle.mib_model.specs.declared.rows.VpdRow.{VpdRow}
use Rattle.row_interpreter.specs.Tables.{CheckTables, CurveTables, PacketTables}

-- the database of these tables
abbrev pub database_by : PacketTables → List PcfRow → List PlfRow → List VpdRow → CurveTables → CheckTables → Database
database_by packets pcf plf vpd curves checks = record {
  pcf = pcf;
  pid = packets.pid;
  pic = packets.pic;
  tpcf = packets.tpcf;
  plf = plf;
  vpd = vpd;
  cur = curves.cur;
  caf = curves.caf;
  cap = curves.cap;
  txf = curves.txf;
  txp = curves.txp;
  mcf = curves.mcf;
  lgf = curves.lgf;
  ocf = checks.ocf;
  ocp = checks.ocp;
}
