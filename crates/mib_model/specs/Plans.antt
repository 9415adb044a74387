-- The plans of a database: what each compiled part depends on. [This profile.]
use Rattle.std.specs.Prelude.{ℕ, pos, Bool, List, [], ◌∷◌, ◌++◌, map, filter, filter_map, Option, Some, None, option_and_then, ◌==◌, ◌&&◌, not, if◌then◌else◌}
use Rattle.std.specs.List.{list_any}
use Rattle.std.specs.Cmp.Lexicographic.{slice_cmp}
use Rattle.std.specs.Ordering.{nat_cmp, is_le}
use Rattle.mib_model.specs.declared.plan.CurveRows.{CurveRows}
use Rattle.mib_model.specs.declared.plan.Plan.{Plan}
use Rattle.mib_model.specs.declared.plan.PlanName.TheVariants as plan
use Rattle.mib_model.specs.declared.plan.Slice.TheVariants as slice
use Rattle.mib_model.specs.declared.plan.TypeItem.{TypeItem}
use Rattle.mib_model.specs.declared.rows.CurRow.{CurRow}
use Rattle.mib_model.specs.declared.rows.PcfRow.{PcfRow}
use Rattle.mib_model.specs.declared.rows.PidRow.{PidRow}
use Rattle.mib_model.specs.declared.rows.PlfRow.{PlfRow}
use Rattle.mib_model.specs.Carry.{check_of}
use Rattle.mib_model.specs.Checks.{checks_of}
use Rattle.mib_model.specs.Curves.{curve_named, selections}
use Rattle.mib_model.specs.Database.{Database}
use Rattle.mib_model.specs.Fixed.{has_layout}
use Rattle.mib_model.specs.Orders.{sorted_by, sorted_by_number}
use Rattle.mib_model.specs.Parameters.{parameter, is_measured, endian_of}
use Rattle.mib_model.specs.Structures.{structure, is_deduced}

-- what a layout depends on of a parameter
abbrev pub type_item : PcfRow → TypeItem
type_item row = record { name = row.name; ptc = row.ptc; pfc = row.pfc; width = row.width; natur = row.natur; endian = endian_of row.endian }

-- the type items of names, in their order
abbrev pub type_items : Database → List (List ℕ) → List TypeItem
type_items db names = filter_map (λ name. option_and_then (λ row. Some (type_item row)) (parameter db.pcf name)) names

-- the names of a parameter's curves: CURTX alone where it is given, else one for each selection
abbrev pub curve_names : Option (List ℕ) → List CurRow → List (List ℕ)
curve_names (Some name) curs = name ∷ []
curve_names None curs = map (λ cur. cur.curve) curs

-- the curves of a parameter, one for each name; category `T` has none
abbrev pub curves_for : Database → PcfRow → List (Option CurveRows)
curves_for db row = map (curve_named db row.categ) (curve_names row.curtx (selections db row.name))

-- ---- plans of parameters

-- a parameter has a plan where it is measured and not deduced
abbrev pub has_plan : PcfRow → Bool
has_plan row = is_measured row && not (is_deduced row)

-- the plan of a parameter
abbrev pub param_plan : Database → PcfRow → Plan
param_plan db row =
    record { name = plan.Param row.name; slice = slice.Param row (selections db row.name) (curves_for db row) (check_of db row.name) (checks_of db row.name) }

-- names in the order of their octets
abbrev pub may_precede : List ℕ → List ℕ → Bool
may_precede x y = is_le (slice_cmp nat_cmp x y)

-- the plans of parameters, by name
unfoldable pub param_plans : Database → List Plan
param_plans db = map (param_plan db) (sorted_by (λ x y. may_precede x.name y.name) (filter has_plan db.pcf))

-- ---- plans of fixed layouts

-- the rows of places of a packet
abbrev pub layout_rows : Database → ℕ → List PlfRow
layout_rows db spid = filter (λ row. row.spid == spid) db.plf

-- the plan of a fixed layout
abbrev pub layout_plan : Database → PidRow → Plan
layout_plan db row =
    record {
      name = plan.Layout row.spid;
      slice = slice.Layout row (layout_rows db row.spid) (type_items db (map (λ plf. plf.name) (layout_rows db row.spid)));
    }

-- the plans of fixed layouts, by SPID
unfoldable pub layout_plans : Database → List Plan
layout_plans db = map (layout_plan db) (sorted_by_number (λ row. row.spid) (filter has_layout db.pid))

-- ---- plans of structures

-- the numbers of a list, each once
abbrev pub distinct : List ℕ → List ℕ
distinct [] = []
distinct (n ∷ ns) = if list_any (λ m. m == n) ns then distinct ns else n ∷ distinct ns

-- the plan of a structure
abbrev pub structure_plan : Database → ℕ → Plan
structure_plan db tpsd =
    record {
      name = plan.Structure tpsd;
      slice = slice.Structure (structure db (pos tpsd)) (type_items db (map (λ row. row.name) (structure db (pos tpsd))));
    }

-- the plans of structures, by TPSD
unfoldable pub structure_plans : Database → List Plan
structure_plans db = map (structure_plan db) (sorted_by_number (λ n. n) (distinct (map (λ row. row.tpsd) db.vpd)))

-- ---- the plan of identification, and all plans

-- the plan of identification
abbrev pub ident_plan : Database → Plan
ident_plan db = record { name = plan.Ident; slice = slice.Ident db.pid db.pic }

-- all plans, in their order
unfoldable pub plans : Database → List Plan
plans db = param_plans db ++ layout_plans db ++ structure_plans db ++ ident_plan db ∷ []
