-- What is known of the tables that two databases have in common.
use Rattle.std.proofs.Common.{◌≡◌, Bool, true, false, ◌&&◌, not, cond, List, filter_map, refl, ap}
use Rattle.mib_model.specs.declared.database.Database.{Database}
use Rattle.mib_model.specs.declared.kind.Kind.{Kind}
use Rattle.mib_model.specs.declared.kind.Kind.TheVariants as kind
use Rattle.mib_model.specs.declared.rows.Row.{Row}
use Rattle.mib_model.specs.Drafts.{same_kind, with_rows}
use Rattle.mib_model.specs.TypedRows.{as_pcf, as_pid, as_pic, as_tpcf, as_plf, as_vpd, as_cur, as_caf, as_cap, as_txf, as_txp, as_mcf, as_lgf, as_ocf, as_ocp}
use Rattle.mib_keys.specs.Kept.{AreSameIn, HasAllSame, others, without}
use Rattle.mib_tables.specs.declared.table_set.TableSet.{TableSet}
use Rattle.mib_tables.specs.Parts.{if_kept, part_of}

-- rows that a table keeps where other rows are given to another table
kept-rows : {R : Type 0} (own b : Bool) (xs ys zs : List R) → (b ≡ true → xs ≡ ys) → (not own && b) ≡ true → xs ≡ cond own zs ys
kept-rows true b xs ys zs same h = absurd (cc h)
kept-rows false b xs ys zs same h = same h

-- but for a table that is given other rows, databases have in common what they had
pub same-without : (set : TableSet) (table : Kind) (old new : Database) (rows : List Row) → AreSameIn set old new → AreSameIn (without set table) old (with_rows new table rows)
same-without set table old new rows same = record {
  pcf = kept-rows (same_kind kind.Pcf table) set.pcf old.pcf new.pcf (filter_map as_pcf rows) same.pcf;
  pid = kept-rows (same_kind kind.Pid table) set.pid old.pid new.pid (filter_map as_pid rows) same.pid;
  pic = kept-rows (same_kind kind.Pic table) set.pic old.pic new.pic (filter_map as_pic rows) same.pic;
  tpcf = kept-rows (same_kind kind.Tpcf table) set.tpcf old.tpcf new.tpcf (filter_map as_tpcf rows) same.tpcf;
  plf = kept-rows (same_kind kind.Plf table) set.plf old.plf new.plf (filter_map as_plf rows) same.plf;
  vpd = kept-rows (same_kind kind.Vpd table) set.vpd old.vpd new.vpd (filter_map as_vpd rows) same.vpd;
  cur = kept-rows (same_kind kind.Cur table) set.cur old.cur new.cur (filter_map as_cur rows) same.cur;
  caf = kept-rows (same_kind kind.Caf table) set.caf old.caf new.caf (filter_map as_caf rows) same.caf;
  cap = kept-rows (same_kind kind.Cap table) set.cap old.cap new.cap (filter_map as_cap rows) same.cap;
  txf = kept-rows (same_kind kind.Txf table) set.txf old.txf new.txf (filter_map as_txf rows) same.txf;
  txp = kept-rows (same_kind kind.Txp table) set.txp old.txp new.txp (filter_map as_txp rows) same.txp;
  mcf = kept-rows (same_kind kind.Mcf table) set.mcf old.mcf new.mcf (filter_map as_mcf rows) same.mcf;
  lgf = kept-rows (same_kind kind.Lgf table) set.lgf old.lgf new.lgf (filter_map as_lgf rows) same.lgf;
  ocf = kept-rows (same_kind kind.Ocf table) set.ocf old.ocf new.ocf (filter_map as_ocf rows) same.ocf;
  ocp = kept-rows (same_kind kind.Ocp table) set.ocp old.ocp new.ocp (filter_map as_ocp rows) same.ocp;
}

-- rows that are known to be the same, or were compared
known-rows : {R : Type 0} (known : Bool) (xs ys : List R) → (known ≡ true → xs ≡ ys) → if_kept (not known) xs ≡ if_kept (not known) ys → xs ≡ ys
known-rows true xs ys same compared = same refl
known-rows false xs ys same compared = compared

-- tables that are known to be the same, or were compared
pub same-known : (known set : TableSet) (old new : Database) → AreSameIn known old new → AreSameIn set (part_of (others known) old) (part_of (others known) new) → AreSameIn set old new
same-known known set old new are compared = record {
  pcf = λ h. known-rows known.pcf old.pcf new.pcf are.pcf (compared.pcf h);
  pid = λ h. known-rows known.pid old.pid new.pid are.pid (compared.pid h);
  pic = λ h. known-rows known.pic old.pic new.pic are.pic (compared.pic h);
  tpcf = λ h. known-rows known.tpcf old.tpcf new.tpcf are.tpcf (compared.tpcf h);
  plf = λ h. known-rows known.plf old.plf new.plf are.plf (compared.plf h);
  vpd = λ h. known-rows known.vpd old.vpd new.vpd are.vpd (compared.vpd h);
  cur = λ h. known-rows known.cur old.cur new.cur are.cur (compared.cur h);
  caf = λ h. known-rows known.caf old.caf new.caf are.caf (compared.caf h);
  cap = λ h. known-rows known.cap old.cap new.cap are.cap (compared.cap h);
  txf = λ h. known-rows known.txf old.txf new.txf are.txf (compared.txf h);
  txp = λ h. known-rows known.txp old.txp new.txp are.txp (compared.txp h);
  mcf = λ h. known-rows known.mcf old.mcf new.mcf are.mcf (compared.mcf h);
  lgf = λ h. known-rows known.lgf old.lgf new.lgf are.lgf (compared.lgf h);
  ocf = λ h. known-rows known.ocf old.ocf new.ocf are.ocf (compared.ocf h);
  ocp = λ h. known-rows known.ocp old.ocp new.ocp are.ocp (compared.ocp h);
}

-- rows that were left out were known, and the others were compared
compared-rows : {R : Type 0} (known same : Bool) (xs ys : List R) → (if_kept (not known) xs ≡ if_kept (not known) ys → same ≡ true) → xs ≡ ys → same ≡ true
compared-rows known same xs ys compared are = compared (ap (if_kept (not known)) are)

-- all tables that are the same, where some are known and the others were compared
pub all-known : (known set : TableSet) (old new : Database) → HasAllSame set (part_of (others known) old) (part_of (others known) new) → HasAllSame set old new
all-known known set old new compared = record {
  pcf = compared-rows known.pcf set.pcf old.pcf new.pcf compared.pcf;
  pid = compared-rows known.pid set.pid old.pid new.pid compared.pid;
  pic = compared-rows known.pic set.pic old.pic new.pic compared.pic;
  tpcf = compared-rows known.tpcf set.tpcf old.tpcf new.tpcf compared.tpcf;
  plf = compared-rows known.plf set.plf old.plf new.plf compared.plf;
  vpd = compared-rows known.vpd set.vpd old.vpd new.vpd compared.vpd;
  cur = compared-rows known.cur set.cur old.cur new.cur compared.cur;
  caf = compared-rows known.caf set.caf old.caf new.caf compared.caf;
  cap = compared-rows known.cap set.cap old.cap new.cap compared.cap;
  txf = compared-rows known.txf set.txf old.txf new.txf compared.txf;
  txp = compared-rows known.txp set.txp old.txp new.txp compared.txp;
  mcf = compared-rows known.mcf set.mcf old.mcf new.mcf compared.mcf;
  lgf = compared-rows known.lgf set.lgf old.lgf new.lgf compared.lgf;
  ocf = compared-rows known.ocf set.ocf old.ocf new.ocf compared.ocf;
  ocp = compared-rows known.ocp set.ocp old.ocp new.ocp compared.ocp;
}

-- a database has all tables in common with itself
pub same-all : (set : TableSet) (db : Database) → AreSameIn set db db
same-all set db = record {
  pcf = λ h. refl;
  pid = λ h. refl;
  pic = λ h. refl;
  tpcf = λ h. refl;
  plf = λ h. refl;
  vpd = λ h. refl;
  cur = λ h. refl;
  caf = λ h. refl;
  cap = λ h. refl;
  txf = λ h. refl;
  txp = λ h. refl;
  mcf = λ h. refl;
  lgf = λ h. refl;
  ocf = λ h. refl;
  ocp = λ h. refl;
}
