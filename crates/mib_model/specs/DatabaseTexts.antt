-- The database that 15 texts are, or the first fault. [SCOS-2000 Database Import ICD; the order is this profile's.]
use Rattle.std.specs.Prelude.{ℕ, List, [], ◌∷◌, Option, Some, None, Result, Ok, Err}
use Rattle.mib_model.specs.declared.fault.MibFault.{MibFault}
use Rattle.mib_model.specs.declared.kind.Kind.{Kind}
use Rattle.mib_model.specs.declared.rows.Row.{Row}
use Rattle.mib_model.specs.Database.{Database}
use Rattle.mib_model.specs.Kinds.{kinds}
use Rattle.mib_model.specs.Reading.{table_of}
use Rattle.mib_model.specs.TypedRows.{database_by}

-- the fault of the first faulty one of some tables, if one is faulty
abbrev pub first_fault : (Kind → Result (List Row) MibFault) → List Kind → Option MibFault
first_fault read [] = None
first_fault read (k ∷ ks) = elim (read k) [ Ok rows ↦ first_fault read ks | Err fault ↦ Some fault ]

-- the rows that were read; a fault has none
abbrev pub rows_in : Result (List Row) MibFault → List Row
rows_in (Ok rows) = rows
rows_in (Err fault) = []

-- the database that 15 texts are, or the fault of the first faulty table; a table that isn't held has the empty text
unfoldable pub database_read : (Kind → List ℕ) → Result Database MibFault
database_read texts =
    elim (first_fault (λ k. table_of k (texts k)) kinds) [
      | None ↦ Ok (database_by (λ k. rows_in (table_of k (texts k))))
      | Some fault ↦ Err fault
    ]
