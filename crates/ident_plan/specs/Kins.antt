-- The rows of pid that are of one APID: none, one or more. [CCSDS 133.0-B, application process identifier; SCOS-2000 Database
-- Import ICD, pid.]
use Rattle.std.specs.Prelude.{◌≡◌, ℕ, Bool, ◌==◌, ⊤, List, [], ◌∷◌, get_or}
use Rattle.std.specs.List.{filter}
use Rattle.mib_model.specs.declared.rows.PidRow.{PidRow}
use Rattle.ident_plan.specs.declared.fast.kin.Kin.{Kin}
use Rattle.ident_plan.specs.declared.fast.kin.Kin.TheVariants.{Empty, One, More}

-- whether a row is of an APID
abbrev pub is_of : ℕ → PidRow → Bool
is_of apid row = row.apid == apid

-- what is said of rows: that there is none, or this one alone, or nothing
abbrev pub IsKin : List PidRow → Kin → Type 0
IsKin rows Empty = rows ≡ []
IsKin rows (One row) = rows ≡ row ∷ []
IsKin rows More = ⊤

-- of each APID it is said that it has no row, or which one it has alone, or nothing
abbrev pub AreKins : List PidRow → List Kin → Type 0
AreKins pids kins = (apid : ℕ) → IsKin (filter (is_of apid) pids) (get_or kins apid More)
