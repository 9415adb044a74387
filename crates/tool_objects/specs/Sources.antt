-- Which database is accepted. [This profile.]
use Rattle.std.specs.Prelude.{ℕ, List, Option, Some, None, Result, Ok, Err}
use Rattle.mib_model.specs.declared.database.Database.{Database}
use Rattle.mib_model.specs.declared.fault.MibFault.{MibFault}
use Rattle.mib_model.specs.Attempts.{◌>>=◌}
use Rattle.mib_model.specs.Soundness.{first_flaw}
use Rattle.session.specs.Sources.{Files, database_in}

-- a database without a fault, or its fault
abbrev pub free_of : Database → Option MibFault → Result Database MibFault
free_of db None = Ok db
free_of db (Some fault) = Err fault

-- a sound database, or its first flaw
abbrev pub if_sound : Database → Result Database MibFault
if_sound db = free_of db (first_flaw db)

-- the sound database that the tables of a folder are, or the fault for which they are refused
unfoldable pub sound_in : Files → List ℕ → Result Database MibFault
sound_in files folder = database_in files folder >>= if_sound
