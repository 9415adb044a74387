-- What a structure is compiled of, and the structures and deduced parameters of a database.
-- [SCOS-2000 Database Import ICD, vpd and pcf.]
use Rattle.std.specs.Prelude.{ℤ, List, [], ◌∷◌, map, Option, Some, None, option_map}
use Rattle.mib_model.specs.declared.plan.TypeItem.{TypeItem}
use Rattle.mib_model.specs.declared.rows.VpdRow.{VpdRow}
use Rattle.mib_model.specs.declared.database.Database.{Database}
use Rattle.mib_model.specs.Plans.{type_item, type_items}
use Rattle.mib_model.specs.Structures.{structure, deduced}

-- the rows of a structure by POS, and the type items of their names
pub record StructureRows : Type 0 where
  pub vpds : List VpdRow
  pub types : List TypeItem

-- the rows beside the type items of their names
abbrev pub with_types : Database → List VpdRow → StructureRows
with_types db rows = record { vpds = rows; types = type_items db (map (λ row. row.name) rows) }

-- what rows are a structure; no rows are none
abbrev pub some_rows : Database → List VpdRow → Option StructureRows
some_rows db [] = None
some_rows db (row ∷ rows) = Some (with_types db (row ∷ rows))

-- what the plan of a structure depends on, where there is such a structure
abbrev pub structure_found : Database → ℤ → Option StructureRows
structure_found db tpsd = some_rows db (structure db tpsd)

-- the type item of the parameter that a deduced value is of, where there is one
abbrev pub deduced_item : Database → ℤ → Option TypeItem
deduced_item db pid = option_map type_item (deduced db pid)
