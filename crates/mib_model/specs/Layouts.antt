-- The places of a fixed layout by the rows that its plan depends on. [SCOS-2000 Database Import ICD, plf and pcf; this profile.]
use Rattle.std.specs.Prelude.{ℕ, List, Option, None, option_and_then, if◌then◌else◌}
use Rattle.std.specs.List.{find, flat_map}
use Rattle.std.specs.Str.{bytes_eq}
use Rattle.mib_model.specs.declared.plan.TypeItem.{TypeItem}
use Rattle.mib_model.specs.declared.rows.PlfRow.{PlfRow}
use Rattle.mib_model.specs.Encodings.{Encoding, encoding_of}
use Rattle.mib_model.specs.Fixed.{Place, occurrences}
use Rattle.mib_model.specs.Parameters.{is_measured_nature}

-- the first type item of a name
abbrev pub item_named : List TypeItem → List ℕ → Option TypeItem
item_named types name = find (λ item. bytes_eq item.name name) types

-- what the bits of a measured parameter's values are, by its type item
abbrev pub item_encoding : TypeItem → Option Encoding
item_encoding item = if is_measured_nature item.natur then encoding_of item.ptc item.pfc item.endian else None

-- the places of the values of a layout: those of its rows, in their order
unfoldable pub layout_places : List PlfRow → List TypeItem → List Place
layout_places plfs types = flat_map (λ row. occurrences row (option_and_then item_encoding (item_named types row.name))) plfs
