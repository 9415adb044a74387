-- The fixed layouts of a database. [SCOS-2000 Database Import ICD, pid and plf.]
use Rattle.std.specs.Prelude.{◌≡◌, ℕ, pos, int_lt, Bool, true, map, Option, Some, None, is_some, option_map, ◌==◌, ◌&&◌}
use Rattle.std.specs.List.{find}
use Rattle.layout_plan.specs.Slices.{LayoutRows}
use Rattle.mib_model.specs.declared.database.Database.{Database}
use Rattle.mib_model.specs.declared.packet.Found.{Found}
use Rattle.mib_model.specs.declared.packet.Found.TheVariants as found
use Rattle.mib_model.specs.declared.rows.PidRow.{PidRow}
use Rattle.mib_model.specs.Fixed.{has_layout, places}
use Rattle.mib_model.specs.Layouts.{layout_places}
use Rattle.mib_model.specs.Plans.{layout_rows, type_items}

-- a row of the packets of fixed layout with a SPID
abbrev pub is_layout_row : ℕ → PidRow → Bool
is_layout_row spid row = has_layout row && (row.spid == spid)

-- what the layout of a packet depends on
abbrev pub layout_slice : Database → PidRow → LayoutRows
layout_slice db row = record {
  pid = row;
  plfs = layout_rows db row.spid;
  types = type_items db (map (λ plf. plf.name) (layout_rows db row.spid));
}

-- what the layout of the first packet of fixed layout with a SPID depends on, if there is one
unfoldable pub layout_of : Database → ℕ → Option LayoutRows
layout_of db spid = option_map (layout_slice db) (find (is_layout_row spid) db.pid)

-- a layout, if there is one, has the places of the values of a SPID
abbrev pub HasPlaces : Database → ℕ → Option LayoutRows → Type 0
HasPlaces db spid None = Unit {0}
HasPlaces db spid (Some rows) = layout_places rows.plfs rows.types ≡ places db spid

-- what a packet is has a layout, where it is found and of no structure
unfoldable pub HasLayout : Database → Found → Type 0
HasLayout db (found.Spid spid service subtype tpsd dfhsize) = int_lt tpsd (pos 1) ≡ true → is_some (layout_of db spid) ≡ true
HasLayout db other = Unit {0}
