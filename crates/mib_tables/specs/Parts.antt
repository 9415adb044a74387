-- Parts of a database: the rows of some of its tables. [This profile.]
use Rattle.std.specs.Prelude.{Bool, List, [], if◌then◌else◌}
use Rattle.mib_model.specs.declared.database.Database.{Database}
use Rattle.mib_tables.specs.declared.table_set.TableSet.{TableSet}

-- the rows of a table that is kept; else none
abbrev pub if_kept : {R : Type 0} → Bool → List R → List R
if_kept kept rows = if kept then rows else []

-- the rows of some tables, and none of the others
abbrev pub part_of : TableSet → Database → Database
part_of set db = record {
  pcf = if_kept set.pcf db.pcf;
  pid = if_kept set.pid db.pid;
  pic = if_kept set.pic db.pic;
  tpcf = if_kept set.tpcf db.tpcf;
  plf = if_kept set.plf db.plf;
  vpd = if_kept set.vpd db.vpd;
  cur = if_kept set.cur db.cur;
  caf = if_kept set.caf db.caf;
  cap = if_kept set.cap db.cap;
  txf = if_kept set.txf db.txf;
  txp = if_kept set.txp db.txp;
  mcf = if_kept set.mcf db.mcf;
  lgf = if_kept set.lgf db.lgf;
  ocf = if_kept set.ocf db.ocf;
  ocp = if_kept set.ocp db.ocp;
}
