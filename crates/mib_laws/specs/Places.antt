-- The law of a layout's slice.
use Rattle.std.specs.Prelude.{◌≡◌, ℕ, map}
use Rattle.mib_model.specs.declared.database.Database.{Database}
use Rattle.mib_model.specs.Fixed.{places}
use Rattle.mib_model.specs.Layouts.{layout_places}
use Rattle.mib_model.specs.Plans.{layout_rows, type_items}

-- the places of a packet by the rows of its plan are those by the whole database
abbrev pub SlicesSuffice : Type 0
SlicesSuffice = (db : Database) (spid : ℕ) → layout_places (layout_rows db spid) (type_items db (map (λ row. row.name) (layout_rows db spid))) ≡ places db spid
