-- A monitoring database: its 15 tables, each a list of rows in the order of its file.
-- [SCOS-2000 Database Import ICD, monitoring tables.]
use Rattle.std.specs.Prelude.{[]}
use Rattle.mib_model.specs.declared.tables.Tables.{Tables}
pub use Rattle.mib_model.specs.declared.database.Database.{Database}

-- the database that tables in memory are
abbrev pub database_of : Tables → Database
database_of t = record {
  pcf = t.pcf.items;
  pid = t.pid.items;
  pic = t.pic.items;
  tpcf = t.tpcf.items;
  plf = t.plf.items;
  vpd = t.vpd.items;
  cur = t.cur.items;
  caf = t.caf.items;
  cap = t.cap.items;
  txf = t.txf.items;
  txp = t.txp.items;
  mcf = t.mcf.items;
  lgf = t.lgf.items;
  ocf = t.ocf.items;
  ocp = t.ocp.items;
}

-- a database with no rows
abbrev pub no_rows : Database
no_rows = record {
  pcf = [];
  pid = [];
  pic = [];
  tpcf = [];
  plf = [];
  vpd = [];
  cur = [];
  caf = [];
  cap = [];
  txf = [];
  txp = [];
  mcf = [];
  lgf = [];
  ocf = [];
  ocp = [];
}
