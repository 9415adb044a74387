-- The fixed layouts of a database beside those of a base. [SCOS-2000 Database Import ICD, pid and plf; this profile.]
use Rattle.std.specs.Prelude.{ℕ, ℤ, pos, Bool, List, Option, Some, None, filter, map, option_map, if◌then◌else◌}
use Rattle.std.specs.List.{find}
use Rattle.std.specs.Option.{option_eq}
use Rattle.std.specs.Ordering.{int_eq}
use Rattle.edition_plans.specs.Layouts.{layout_slice}
use Rattle.layout_plan.specs.Slices.{LayoutRows}
use Rattle.mib_model.specs.declared.database.Database.{Database}
use Rattle.mib_model.specs.declared.plan.Slice.{Slice}
use Rattle.mib_model.specs.declared.plan.Slice.TheVariants as slice
use Rattle.mib_model.specs.declared.rows.PidRow.{PidRow}
use Rattle.mib_model.specs.Fixed.{has_layout}
use Rattle.mib_model.specs.Touched.{same_slice}
use Rattle.numbered_plans.specs.Numbered.{new_numbers}

-- what a layout is compiled of, as the slice of a plan
abbrev pub as_slice : LayoutRows → Slice
as_slice rows = slice.Layout rows.pid rows.plfs rows.types

-- whether two layouts are compiled of the same rows and type items
abbrev pub same_layout : LayoutRows → LayoutRows → Bool
same_layout old new = same_slice (as_slice old) (as_slice new)

-- the SPIDs of packets of fixed layout
abbrev pub laid_spids : List PidRow → List ℕ
laid_spids rows = map (λ row. row.spid) (filter has_layout rows)

-- the number by which the layout of a packet is found: the SPID, where the layout is fixed
abbrev pub laid_out : PidRow → Option ℤ
laid_out row = if has_layout row then Some (pos row.spid) else None

-- what the layout of a number is compiled of: that of the first packet of fixed layout with this SPID
abbrev pub layout_numbered : Database → ℤ → Option LayoutRows
layout_numbered db q = option_map (layout_slice db) (find (λ row. option_eq int_eq (laid_out row) (Some q)) db.pid)

-- the SPIDs of the layouts that the base lacks, or has of other rows or type items, each once, in order
abbrev pub new_layouts : Database → Database → List ℕ
new_layouts = new_numbers same_layout layout_numbered (λ db. laid_spids db.pid)
