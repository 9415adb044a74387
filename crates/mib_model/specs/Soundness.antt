-- Sound databases: those without flaws. [SCOS-2000 Database Import ICD, integrity of the tables; this profile.]
use Rattle.std.specs.Prelude.{◌≡◌, List, [], ◌∷◌, Option}
use Rattle.std.specs.List.{flat_map}
use Rattle.mib_model.specs.declared.fault.MibFault.{MibFault}
use Rattle.mib_model.specs.declared.kind.Kind.{Kind}
use Rattle.mib_model.specs.declared.kind.Kind.TheVariants as kind
use Rattle.mib_model.specs.declared.rows.Row.TheVariants as row
use Rattle.mib_model.specs.Database.{Database}
use Rattle.mib_model.specs.Flaws.{table_flaws, twice}
use Rattle.mib_model.specs.GroupFlaws.{vpd_rules}
use Rattle.mib_model.specs.Kinds.{kinds}
use Rattle.mib_model.specs.Points.{first_of}
use Rattle.mib_model.specs.RowFlaws.{pcf_rules, pid_rules, plf_rules, ocf_rules, ocp_rules}
use Rattle.mib_model.specs.CurveFlaws.{cur_rules, caf_rules, cap_rules, txp_rules}

-- the flaws of a table, by row and code
abbrev pub flaws_of : Database → Kind → List MibFault
flaws_of db kind.Pcf = table_flaws kind.Pcf (pcf_rules db) db.pcf
flaws_of db kind.Pid = table_flaws kind.Pid (pid_rules db) db.pid
flaws_of db kind.Pic = table_flaws kind.Pic (twice row.Pic ∷ []) db.pic
flaws_of db kind.Tpcf = table_flaws kind.Tpcf (twice row.Tpcf ∷ []) db.tpcf
flaws_of db kind.Plf = table_flaws kind.Plf (plf_rules db) db.plf
flaws_of db kind.Vpd = table_flaws kind.Vpd (vpd_rules db) db.vpd
flaws_of db kind.Cur = table_flaws kind.Cur (cur_rules db) db.cur
flaws_of db kind.Caf = table_flaws kind.Caf (caf_rules db) db.caf
flaws_of db kind.Cap = table_flaws kind.Cap (cap_rules db) db.cap
flaws_of db kind.Txf = table_flaws kind.Txf (twice row.Txf ∷ []) db.txf
flaws_of db kind.Txp = table_flaws kind.Txp (txp_rules db) db.txp
flaws_of db kind.Mcf = table_flaws kind.Mcf (twice row.Mcf ∷ []) db.mcf
flaws_of db kind.Lgf = table_flaws kind.Lgf (twice row.Lgf ∷ []) db.lgf
flaws_of db kind.Ocf = table_flaws kind.Ocf (ocf_rules db) db.ocf
flaws_of db kind.Ocp = table_flaws kind.Ocp (ocp_rules db) db.ocp

-- all flaws, by table, row and code
unfoldable pub flaws : Database → List MibFault
flaws db = flat_map (flaws_of db) kinds

-- the first flaw, if there is one
abbrev pub first_flaw : Database → Option MibFault
first_flaw db = first_of (flaws db)

-- a database without a flaw
abbrev pub IsSound : Database → Type 0
IsSound db = flaws db ≡ []
