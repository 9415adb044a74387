-- What soundness reads of rows: all columns but those that no rule looks at. [This profile.]
use Rattle.std.specs.Prelude.{None, pos, map}
use Rattle.mib_model.specs.declared.database.Database.{Database}
use Rattle.mib_model.specs.declared.number.Dec.{Dec}
use Rattle.mib_model.specs.declared.rows.Bound.TheVariants as bound
use Rattle.mib_model.specs.declared.rows.CapRow.{CapRow}
use Rattle.mib_model.specs.declared.rows.McfRow.{McfRow}
use Rattle.mib_model.specs.declared.rows.OcfRow.{OcfRow}
use Rattle.mib_model.specs.declared.rows.OcpRow.{OcpRow}
use Rattle.mib_model.specs.declared.rows.PcfRow.{PcfRow}

-- the decimal 0, in place of a number that is not compared
abbrev pub nought : Dec
nought = record { m = pos 0; e = pos 0 }

-- a parameter, but for its number, its decimals and the value of its condition
abbrev pub pcf_read : PcfRow → PcfRow
pcf_read r =
    record { name = r.name; pid = None; ptc = r.ptc; pfc = r.pfc; width = r.width; valid = r.valid; categ = r.categ; natur = r.natur; curtx = r.curtx; decim = 0; valpar = pos 0; endian = r.endian }

-- a point, but for its value
abbrev pub cap_read : CapRow → CapRow
cap_read r = record { numbr = r.numbr; xvals = r.xvals; yvals = nought }

-- the name of a polynomial
abbrev pub mcf_read : McfRow → McfRow
mcf_read r = record { ident = r.ident; pol1 = nought; pol2 = nought; pol3 = nought; pol4 = nought; pol5 = nought }

-- the name of a check
abbrev pub ocf_read : OcfRow → OcfRow
ocf_read r = record { name = r.name; nbchck = 0; inter = 0; codin = 0 }

-- a limit, but for its type, its bounds and the value of its condition
abbrev pub ocp_read : OcpRow → OcpRow
ocp_read r = record { name = r.name; pos = r.pos; sort = 0; lvalu = bound.Empty; hvalu = bound.Empty; rlchk = r.rlchk; valpar = pos 0 }

-- what soundness reads of a database
abbrev pub read_of : Database → Database
read_of db = record {
  pcf = map pcf_read db.pcf;
  pid = db.pid;
  pic = db.pic;
  tpcf = db.tpcf;
  plf = db.plf;
  vpd = db.vpd;
  cur = db.cur;
  caf = db.caf;
  cap = map cap_read db.cap;
  txf = db.txf;
  txp = db.txp;
  mcf = map mcf_read db.mcf;
  lgf = db.lgf;
  ocf = map ocf_read db.ocf;
  ocp = map ocp_read db.ocp;
}
