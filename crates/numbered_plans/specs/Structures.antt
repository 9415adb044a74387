-- The structures of a database beside those of a base. [SCOS-2000 Database Import ICD, vpd and pcf; this profile.]
use Rattle.std.specs.Prelude.{ℕ, ℤ, pos, Bool, List, Option, Some, None, map, option_map, ◌&&◌, not, if◌then◌else◌}
use Rattle.std.specs.List.{find}
use Rattle.std.specs.Option.{option_eq}
use Rattle.std.specs.Ordering.{int_eq}
use Rattle.mib_model.specs.declared.plan.Slice.{Slice}
use Rattle.mib_model.specs.declared.plan.Slice.TheVariants as slice
use Rattle.mib_model.specs.declared.database.Database.{Database}
use Rattle.mib_model.specs.declared.plan.TypeItem.{TypeItem}
use Rattle.mib_model.specs.declared.rows.PcfRow.{PcfRow}
use Rattle.mib_model.specs.declared.rows.VpdRow.{VpdRow}
use Rattle.mib_model.specs.Parameters.{is_measured}
use Rattle.mib_model.specs.Plans.{type_item}
use Rattle.mib_model.specs.Structures.{structure, is_deduced}
use Rattle.mib_model.specs.Touched.{same_slice}
use Rattle.struct_plan.specs.Slices.{StructureRows, structure_found, with_types}
use Rattle.numbered_plans.specs.Numbered.{new_numbers}

-- what a structure is compiled of, as the slice of a plan
abbrev pub as_slice : StructureRows → Slice
as_slice rows = slice.Structure rows.vpds rows.types

-- what the structure of a TPSD is compiled of
abbrev pub structure_slice : Database → ℤ → StructureRows
structure_slice db tpsd = with_types db (structure db tpsd)

-- whether two structures are compiled of the same rows and type items
abbrev pub same_structure : StructureRows → StructureRows → Bool
same_structure old new = same_slice (as_slice old) (as_slice new)

-- the TPSDs of rows of structures
abbrev pub tpsds : List VpdRow → List ℕ
tpsds rows = map (λ row. row.tpsd) rows

-- the TPSDs of the structures that the base lacks, or has of other rows or type items, each once, in order
abbrev pub new_structures : Database → Database → List ℕ
new_structures = new_numbers same_structure structure_found (λ db. tpsds db.vpd)

-- the number by which a deduced value finds a parameter: that of a measured parameter, not deduced itself, that has one
abbrev pub number_of : PcfRow → Option ℤ
number_of row = if is_measured row && not (is_deduced row) then option_map pos row.pid else None

-- the type item of the first parameter that a deduced value finds by this number
abbrev pub item_numbered : List PcfRow → ℤ → Option TypeItem
item_numbered pcfs pid = option_map type_item (find (λ row. option_eq int_eq (number_of row) (Some pid)) pcfs)
