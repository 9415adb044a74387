-- The rows that the plan of a parameter depends on, and what they give. [SCOS-2000 Database Import ICD, pcf, cur, ocf and ocp.]
use Rattle.std.specs.Prelude.{ℕ, List, Option, Some, None, map, option_map, option_and_then}
use Rattle.std.specs.List.{find, zip}
use Rattle.check_plan.specs.Rows.{CheckRows}
use Rattle.std.specs.Arc.{arc_value}
use Rattle.mib_model.specs.declared.plan.CurveRows.{CurveRows}
use Rattle.mib_model.specs.declared.plan.Slice.{Slice}
use Rattle.mib_model.specs.declared.plan.Slice.TheVariants as slice
use Rattle.mib_model.specs.declared.rows.CurRow.{CurRow}
use Rattle.mib_model.specs.declared.rows.OcfRow.{OcfRow}
use Rattle.mib_model.specs.declared.rows.OcpRow.{OcpRow}
use Rattle.mib_model.specs.declared.rows.PcfRow.{PcfRow}
use Rattle.mib_model.specs.Carry.{check_of}
use Rattle.mib_model.specs.Checks.{checks_of}
use Rattle.mib_model.specs.Curves.{selections}
use Rattle.mib_model.specs.declared.database.Database.{Database}
use Rattle.mib_model.specs.Kept.{Memory, holds}
use Rattle.mib_model.specs.Plans.{curves_for}
use Rattle.mib_model.specs.Points.{first_of}
use Rattle.param_plan.specs.declared.rows.ParamRows.{ParamRows}

-- a parameter's row, its selections, the curve of CURTX or else one for each selection, its check, and its limits
pub record ParamSlice : Type 0 where
  pub pcf : PcfRow
  pub curs : List CurRow
  pub curves : List (Option CurveRows)
  pub ocf : Option OcfRow
  pub ocps : List OcpRow

-- the slice that rows are
abbrev pub slice_of : ParamRows → ParamSlice
slice_of rows =
    record { pcf = rows.pcf; curs = rows.curs.items; curves = map (option_map arc_value) rows.curves.items; ocf = rows.ocf; ocps = rows.ocps.items }

-- the slice of a parameter in a database
abbrev pub slice_for : Database → PcfRow → ParamSlice
slice_for db row =
    record { pcf = row; curs = selections db row.name; curves = curves_for db row; ocf = check_of db row.name; ocps = checks_of db row.name }

-- a slice as that of a plan
abbrev pub as_slice : ParamSlice → Slice
as_slice s = slice.Param s.pcf s.curs s.curves s.ocf s.ocps

-- the curve beside the first selection whose condition holds
abbrev pub curve_beside : Memory → List CurRow → List (Option CurveRows) → Option CurveRows
curve_beside memory curs curves = option_and_then (λ pair. pair.1) (find (λ pair. holds memory pair.0.rlchk pair.0.valpar) (zip curs curves))

-- the only curve where CURTX is given, else that of a selection
abbrev pub curve_by : Memory → Option (List ℕ) → List CurRow → List (Option CurveRows) → Option CurveRows
curve_by memory (Some name) curs curves = option_and_then (λ curve. curve) (first_of curves)
curve_by memory None curs curves = curve_beside memory curs curves

-- the curve that a parameter's values are taken by
abbrev pub curve_in : ParamSlice → Memory → Option CurveRows
curve_in s memory = curve_by memory s.pcf.curtx s.curs s.curves

-- the rows that a parameter is checked by, if it is
abbrev pub checks_in : ParamSlice → Option CheckRows
checks_in s = option_map (λ row. record { ocf = row; ocps = s.ocps }) s.ocf
