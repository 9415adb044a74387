-- Which tables the flaws of a table depend on. [SCOS-2000 Database Import ICD, references between the tables; this profile.]
use Rattle.std.specs.Prelude.{◌≡◌, Bool, true, ◌&&◌, ◌||◌, not, List, [], ◌∷◌}
use Rattle.std.specs.List.{list_any}
use Rattle.mib_model.specs.contracts.kind.KindPartialEq.TheImpl as eq
use Rattle.mib_model.specs.declared.database.Database.{Database}
use Rattle.mib_model.specs.declared.kind.Kind.{Kind}
use Rattle.mib_model.specs.declared.kind.Kind.TheVariants as kind
use Rattle.mib_model.specs.Drafts.{same_kind}
use Rattle.mib_tables.specs.declared.table_set.TableSet.{TableSet}

-- the tables of a set have the same rows in both databases
pub record AreSameIn (set : TableSet) (old new : Database) : Type 0 where
  pub pcf : set.pcf ≡ true → old.pcf ≡ new.pcf
  pub pid : set.pid ≡ true → old.pid ≡ new.pid
  pub pic : set.pic ≡ true → old.pic ≡ new.pic
  pub tpcf : set.tpcf ≡ true → old.tpcf ≡ new.tpcf
  pub plf : set.plf ≡ true → old.plf ≡ new.plf
  pub vpd : set.vpd ≡ true → old.vpd ≡ new.vpd
  pub cur : set.cur ≡ true → old.cur ≡ new.cur
  pub caf : set.caf ≡ true → old.caf ≡ new.caf
  pub cap : set.cap ≡ true → old.cap ≡ new.cap
  pub txf : set.txf ≡ true → old.txf ≡ new.txf
  pub txp : set.txp ≡ true → old.txp ≡ new.txp
  pub mcf : set.mcf ≡ true → old.mcf ≡ new.mcf
  pub lgf : set.lgf ≡ true → old.lgf ≡ new.lgf
  pub ocf : set.ocf ≡ true → old.ocf ≡ new.ocf
  pub ocp : set.ocp ≡ true → old.ocp ≡ new.ocp

-- a set has all tables that have the same rows in both databases
pub record HasAllSame (set : TableSet) (old new : Database) : Type 0 where
  pub pcf : old.pcf ≡ new.pcf → set.pcf ≡ true
  pub pid : old.pid ≡ new.pid → set.pid ≡ true
  pub pic : old.pic ≡ new.pic → set.pic ≡ true
  pub tpcf : old.tpcf ≡ new.tpcf → set.tpcf ≡ true
  pub plf : old.plf ≡ new.plf → set.plf ≡ true
  pub vpd : old.vpd ≡ new.vpd → set.vpd ≡ true
  pub cur : old.cur ≡ new.cur → set.cur ≡ true
  pub caf : old.caf ≡ new.caf → set.caf ≡ true
  pub cap : old.cap ≡ new.cap → set.cap ≡ true
  pub txf : old.txf ≡ new.txf → set.txf ≡ true
  pub txp : old.txp ≡ new.txp → set.txp ≡ true
  pub mcf : old.mcf ≡ new.mcf → set.mcf ≡ true
  pub lgf : old.lgf ≡ new.lgf → set.lgf ≡ true
  pub ocf : old.ocf ≡ new.ocf → set.ocf ≡ true
  pub ocp : old.ocp ≡ new.ocp → set.ocp ≡ true

-- `==` of tables
abbrev pub kind_eq : Kind → Kind → Bool
kind_eq = eq.ghosts.eq

-- the tables that the flaws of a table depend on: its own, and those that its rows refer to
abbrev pub read_by : Kind → List Kind
read_by kind.Pcf = kind.Pcf ∷ kind.Cur ∷ kind.Caf ∷ kind.Txf ∷ kind.Mcf ∷ kind.Lgf ∷ []
read_by kind.Pid = kind.Pid ∷ kind.Vpd ∷ []
read_by kind.Pic = kind.Pic ∷ []
read_by kind.Tpcf = kind.Tpcf ∷ []
read_by kind.Plf = kind.Plf ∷ kind.Pcf ∷ kind.Pid ∷ []
read_by kind.Vpd = kind.Vpd ∷ kind.Pcf ∷ []
read_by kind.Cur = kind.Pcf ∷ kind.Cur ∷ kind.Caf ∷ kind.Txf ∷ kind.Mcf ∷ kind.Lgf ∷ []
read_by kind.Caf = kind.Caf ∷ kind.Cap ∷ []
read_by kind.Cap = kind.Caf ∷ kind.Cap ∷ []
read_by kind.Txf = kind.Txf ∷ []
read_by kind.Txp = kind.Txp ∷ kind.Txf ∷ []
read_by kind.Mcf = kind.Mcf ∷ []
read_by kind.Lgf = kind.Lgf ∷ []
read_by kind.Ocf = kind.Ocf ∷ kind.Pcf ∷ []
read_by kind.Ocp = kind.Ocp ∷ kind.Ocf ∷ kind.Pcf ∷ []

-- the set of some tables
abbrev pub set_of : List Kind → TableSet
set_of tables = record {
  pcf = list_any (λ table. kind_eq table kind.Pcf) tables;
  pid = list_any (λ table. kind_eq table kind.Pid) tables;
  pic = list_any (λ table. kind_eq table kind.Pic) tables;
  tpcf = list_any (λ table. kind_eq table kind.Tpcf) tables;
  plf = list_any (λ table. kind_eq table kind.Plf) tables;
  vpd = list_any (λ table. kind_eq table kind.Vpd) tables;
  cur = list_any (λ table. kind_eq table kind.Cur) tables;
  caf = list_any (λ table. kind_eq table kind.Caf) tables;
  cap = list_any (λ table. kind_eq table kind.Cap) tables;
  txf = list_any (λ table. kind_eq table kind.Txf) tables;
  txp = list_any (λ table. kind_eq table kind.Txp) tables;
  mcf = list_any (λ table. kind_eq table kind.Mcf) tables;
  lgf = list_any (λ table. kind_eq table kind.Lgf) tables;
  ocf = list_any (λ table. kind_eq table kind.Ocf) tables;
  ocp = list_any (λ table. kind_eq table kind.Ocp) tables;
}

-- the set of the tables that the flaws of a table depend on
abbrev pub tables_read : Kind → TableSet
tables_read table = set_of (read_by table)

-- whether a set has all tables of another
abbrev pub contains : TableSet → TableSet → Bool
contains set part =
    (set.pcf || not part.pcf) && (set.pid || not part.pid) && (set.pic || not part.pic) && (set.tpcf || not part.tpcf) && (set.plf || not part.plf) &&
    (set.vpd || not part.vpd) && (set.cur || not part.cur) && (set.caf || not part.caf) && (set.cap || not part.cap) && (set.txf || not part.txf) &&
    (set.txp || not part.txp) && (set.mcf || not part.mcf) && (set.lgf || not part.lgf) && (set.ocf || not part.ocf) && (set.ocp || not part.ocp)

-- whether a set has all tables that the flaws of a table depend on
abbrev pub covers : TableSet → Kind → Bool
covers set table = contains set (tables_read table)

-- the tables that a set hasn't
abbrev pub others : TableSet → TableSet
others set = record {
  pcf = not set.pcf;
  pid = not set.pid;
  pic = not set.pic;
  tpcf = not set.tpcf;
  plf = not set.plf;
  vpd = not set.vpd;
  cur = not set.cur;
  caf = not set.caf;
  cap = not set.cap;
  txf = not set.txf;
  txp = not set.txp;
  mcf = not set.mcf;
  lgf = not set.lgf;
  ocf = not set.ocf;
  ocp = not set.ocp;
}

-- the tables of a set but for one
abbrev pub without : TableSet → Kind → TableSet
without set table = record {
  pcf = not (same_kind kind.Pcf table) && set.pcf;
  pid = not (same_kind kind.Pid table) && set.pid;
  pic = not (same_kind kind.Pic table) && set.pic;
  tpcf = not (same_kind kind.Tpcf table) && set.tpcf;
  plf = not (same_kind kind.Plf table) && set.plf;
  vpd = not (same_kind kind.Vpd table) && set.vpd;
  cur = not (same_kind kind.Cur table) && set.cur;
  caf = not (same_kind kind.Caf table) && set.caf;
  cap = not (same_kind kind.Cap table) && set.cap;
  txf = not (same_kind kind.Txf table) && set.txf;
  txp = not (same_kind kind.Txp table) && set.txp;
  mcf = not (same_kind kind.Mcf table) && set.mcf;
  lgf = not (same_kind kind.Lgf table) && set.lgf;
  ocf = not (same_kind kind.Ocf table) && set.ocf;
  ocp = not (same_kind kind.Ocp table) && set.ocp;
}
