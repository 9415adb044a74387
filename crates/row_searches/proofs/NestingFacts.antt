-- The structures of sound databases are nested.
use Rattle.std.proofs.Common.{◌≡◌, ℕ, zero, suc, ◌≤◌, ℤ, List, [], ◌∷◌, length, subst, sym}
use Rattle.mib_model.specs.declared.database.Database.{Database}
use Rattle.mib_model.specs.declared.rows.VpdRow.{VpdRow}
use Rattle.mib_model.specs.Soundness.{IsSound}
use Rattle.mib_model.specs.Structures.{structure}
use Rattle.mib_laws.proofs.LimitFacts.{structure-rows}
use Rattle.mib_laws.proofs.Nesting.{Fits, Nested}
use Rattle.mib_laws.proofs.SoundStructures.{structures-good}
use Rattle.row_searches.specs.Nesting.{AreNested, Holds}

fits-holds : (n : ℕ) (rows : List VpdRow) → Fits n rows → Holds n rows
fits-holds zero rows fits = tt
fits-holds (suc n) [] fits = absurd fits
fits-holds (suc n) (row ∷ rows) fits = (fits.0, fits-holds n rows fits.1)

nested-are : (rows : List VpdRow) → Nested rows → AreNested rows
nested-are [] nested = tt
nested-are (row ∷ rows) nested = (fits-holds row.grpsize rows nested.0.fits, nested-are rows nested.1)

-- rows that are those of a structure
pub structure-nested : (db : Database) → IsSound db → (tpsd : ℤ) (rows : List VpdRow) → rows ≡ structure db tpsd → AreNested rows
structure-nested db sound tpsd rows is =
    subst AreNested (sym is) (nested-are (structure db tpsd) (structures-good db sound (length db.vpd) (structure-rows db) tpsd).nested)
