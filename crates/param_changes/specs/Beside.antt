-- Plans of parameters beside those of a base that has parameters of the same names. [This profile.]
use Rattle.std.specs.Prelude.{◌≡◌, ℕ, Bool, true, false, ◌&&◌, not, List, Option, Some, None, map, if◌then◌else◌}
use Rattle.std.specs.List.{All}
use Rattle.mib_model.specs.Carry.{check_of}
use Rattle.mib_model.specs.Checks.{checks_of}
use Rattle.mib_model.specs.Curves.{selections}
use Rattle.mib_model.specs.declared.database.Database.{Database}
use Rattle.mib_model.specs.declared.rows.PcfRow.{PcfRow}
use Rattle.mib_model.specs.Plans.{curves_for, has_plan}
use Rattle.mib_model.specs.Touched.{same_slice}
use Rattle.mib_tables.specs.declared.table_set.TableSet.{TableSet}
use Rattle.param_plan.specs.declared.rows.ParamRows.{ParamRows}
use Rattle.param_plan.specs.Slices.{ParamSlice, as_slice, slice_for, slice_of}
use Rattle.param_changes.specs.Changed.{has_name, takes_any}
use Rattle.param_changes.specs.declared.changed.Changed.{Changed}
use Rattle.param_set.specs.Sources.{row_now}

-- whether a set has all tables that curves are found in
abbrev pub are_curves_kept : TableSet → Bool
are_curves_kept set = set.cur && set.caf && set.cap && set.txf && set.txp && set.mcf && set.lgf

-- a set has all tables that plans of parameters depend on
pub record AreAllKept (set : TableSet) : Type 0 where
  pub pcf : set.pcf ≡ true
  pub cur : set.cur ≡ true
  pub curves : are_curves_kept set ≡ true
  pub ocf : set.ocf ≡ true
  pub ocp : set.ocp ≡ true

-- at each place two lists have parameters of one name, both with a plan or both without
pub record AreAlike (olds news : List PcfRow) : Type 0 where
  pub names : map (λ row. row.name) olds ≡ map (λ row. row.name) news
  pub planned : map has_plan olds ≡ map has_plan news

-- the slice that the parameter of a slice has in a database
abbrev pub now_of : Database → ParamSlice → ParamSlice
now_of db slice = slice_for db (row_now db slice.pcf)

-- all rows of a slice but for its curves are those of its parameter in a database
pub record HasRows (slice : ParamSlice) (db : Database) : Type 0 where
  pub pcf : row_now db slice.pcf ≡ slice.pcf
  pub curs : slice.curs ≡ selections db slice.pcf.name
  pub ocf : slice.ocf ≡ check_of db slice.pcf.name
  pub ocps : slice.ocps ≡ checks_of db slice.pcf.name

-- whether the parameter of a slice changed
abbrev pub has_changed : Changed → ParamSlice → Bool
has_changed changed slice = has_name changed.parameters.items slice.pcf.name

-- whether a curve of a slice changed
abbrev pub has_changed_curve : Changed → ParamSlice → Bool
has_changed_curve changed slice = takes_any changed.curves.items slice.pcf.curtx slice.curs

-- what did not change of a slice is that of its parameter in a database
pub record IsKeptBy (changed : Changed) (slice : ParamSlice) (db : Database) : Type 0 where
  pub rows : has_changed changed slice ≡ false → HasRows slice db
  pub curves : has_changed changed slice ≡ false → has_changed_curve changed slice ≡ false → slice.curves ≡ curves_for db slice.pcf

-- what did not change of each slice is that of its parameter in a database
abbrev pub AreKeptBy : Changed → List ParamSlice → Database → Type 0
AreKeptBy changed slices db = All (λ slice. IsKeptBy changed slice db) slices

-- no curve of the slices changed
abbrev pub AreFreeOf : Changed → List ParamSlice → Type 0
AreFreeOf changed slices = All (λ slice. has_changed_curve changed slice ≡ false) slices

-- nothing of the slices changed
abbrev pub AreUntouched : Changed → List ParamSlice → Type 0
AreUntouched changed slices = All (λ slice. has_changed changed slice ≡ false) slices × AreFreeOf changed slices

-- whether the slice that the parameter of a slice has in a database is another
abbrev pub is_other : Database → ParamSlice → Bool
is_other db slice = not (same_slice (as_slice slice) (as_slice (now_of db slice)))

-- the rows that the parameter of a slice has in a database, where they are others than the slice's
abbrev pub IsOtherNow : Database → ParamSlice → Option ParamRows → Type 0
IsOtherNow db slice None = (slice ≡ now_of db slice) × (is_other db slice ≡ false)
IsOtherNow db slice (Some rows) = (slice_of rows ≡ now_of db slice) × (is_other db slice ≡ true)

-- one where something holds, else none
abbrev pub one_if : Bool → ℕ
one_if b = if b then 1 else 0
