-- What is said of an input that was had, or was not to be had. [This profile.]
use Rattle.std.specs.Prelude.{◌≡◌, ◌⊎◌, ℕ, List, None, Ok, IfSome}
use Rattle.mib_model.specs.declared.database.Database.{Database}
use Rattle.mib_model.specs.Soundness.{IsSound}
use Rattle.tool_objects.specs.Objects.{HasStood, ShelfView}
use Rattle.tool_objects.specs.Sources.{sound_in}
use Rattle.tool_objects.specs.Told.{HasMissed, HasTurned, OfFile, StoodAt}

-- sound tables were had, those of the folder where they are told
pub record AreSound {T : Type 0} (db : Database) (folder : List ℕ) (tables : ShelfView T) : Type 0 where
  pub is_sound : IsSound db
  pub stood : HasStood tables
  pub of_tables : IfSome (tables.holds tables.before) (λ files. sound_in files folder ≡ Ok db)

-- a shelf was turned to the file of that name, which is held where the shelf tells that
pub record IsTurned {S : Type 0} (name : List ℕ) (s : ShelfView S) : Type 0 where
  pub stood : HasStood s
  pub turned : HasTurned s
  pub held : StoodAt s name (s.left s.now)

-- a shelf was not turned to the file of that name, with this answer: of the two the first where the file isn't held, the second where the turn failed
abbrev pub IsUnturned : {C S : Type 0} → C → C → C → List ℕ → ShelfView S → Type 0
IsUnturned missing fault answer name s =
    ((answer ≡ missing) × HasStood s × OfFile s name (λ found. found ≡ None)) ⊎ ((answer ≡ fault) × HasMissed s)
