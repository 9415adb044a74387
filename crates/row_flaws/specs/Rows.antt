-- Rows of any table by the rules of their tables, but for the first rule of each: that no row before has the row's key. [This profile.]
use Rattle.std.specs.Prelude.{◌≡◌, ◌-◌, ℕ, drop, take, position, Option, None, ⊤}
use Rattle.mib_model.specs.declared.database.Database.{Database}
use Rattle.mib_model.specs.declared.fault.MibFault.{MibFault}
use Rattle.mib_model.specs.declared.kind.Kind.TheVariants as kind
use Rattle.mib_model.specs.declared.rows.Row.{Row}
use Rattle.mib_model.specs.declared.rows.Row.TheVariants as row
use Rattle.mib_model.specs.GroupFlaws.{vpd_rules}
use Rattle.mib_model.specs.RowFlaws.{pcf_rules, pid_rules, plf_rules, ocf_rules, ocp_rules}
use Rattle.mib_model.specs.CurveFlaws.{cur_rules, caf_rules, cap_rules, txp_rules}
use Rattle.row_flaws.specs.Firsts.{flaw_by}
use Rattle.row_flaws.specs.Indexes.{cut}
use Rattle.row_flaws.specs.Structures.{is_same_place}

-- none of so many rows of vpd is of the structure and at the POS of the row; of other tables nothing is asked
abbrev pub IsFirst : Database → ℕ → Row → Type 0
IsFirst db before (row.Vpd r) = cut before (position (is_same_place r) db.vpd) ≡ None
IsFirst db before other = ⊤

-- the first flaw of the row of this number, by the rules behind the first
abbrev pub row_flaw : Database → ℕ → Row → Option MibFault
row_flaw db n (row.Pcf r) = flaw_by kind.Pcf n (drop 1 (pcf_rules db)) (take (n - 1) db.pcf) r
row_flaw db n (row.Pid r) = flaw_by kind.Pid n (drop 1 (pid_rules db)) (take (n - 1) db.pid) r
row_flaw db n (row.Pic r) = None
row_flaw db n (row.Tpcf r) = None
row_flaw db n (row.Plf r) = flaw_by kind.Plf n (drop 1 (plf_rules db)) (take (n - 1) db.plf) r
row_flaw db n (row.Vpd r) = flaw_by kind.Vpd n (drop 1 (vpd_rules db)) (take (n - 1) db.vpd) r
row_flaw db n (row.Cur r) = flaw_by kind.Cur n (drop 1 (cur_rules db)) (take (n - 1) db.cur) r
row_flaw db n (row.Caf r) = flaw_by kind.Caf n (drop 1 (caf_rules db)) (take (n - 1) db.caf) r
row_flaw db n (row.Cap r) = flaw_by kind.Cap n (drop 1 (cap_rules db)) (take (n - 1) db.cap) r
row_flaw db n (row.Txf r) = None
row_flaw db n (row.Txp r) = flaw_by kind.Txp n (drop 1 (txp_rules db)) (take (n - 1) db.txp) r
row_flaw db n (row.Mcf r) = None
row_flaw db n (row.Lgf r) = None
row_flaw db n (row.Ocf r) = flaw_by kind.Ocf n (drop 1 (ocf_rules db)) (take (n - 1) db.ocf) r
row_flaw db n (row.Ocp r) = flaw_by kind.Ocp n (drop 1 (ocp_rules db)) (take (n - 1) db.ocp) r
