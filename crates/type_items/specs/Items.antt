-- The type items of names. [SCOS-2000 Database Import ICD, pcf.]
use Rattle.std.specs.Prelude.{ℕ, List, Option, Some, filter_map, option_and_then}
use Rattle.mib_model.specs.declared.plan.TypeItem.{TypeItem}
use Rattle.mib_model.specs.declared.rows.PcfRow.{PcfRow}
use Rattle.mib_model.specs.Parameters.{parameter}
use Rattle.mib_model.specs.Plans.{type_item}

-- the type item of the first parameter of a name, if there is one
abbrev pub item_of : List PcfRow → List ℕ → Option TypeItem
item_of pcfs name = option_and_then (λ row. Some (type_item row)) (parameter pcfs name)

-- the type items of names, in their order
abbrev pub items_of : List PcfRow → List (List ℕ) → List TypeItem
items_of pcfs names = filter_map (item_of pcfs) names
