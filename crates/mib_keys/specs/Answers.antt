-- What a check answers: the first flaw that the definition gives, unless memory runs out.
use Rattle.std.specs.Prelude.{◌≡◌, Some, Result, Ok, Err, ⊤}
use Rattle.mib_model.specs.declared.database.Database.{Database}
use Rattle.mib_model.specs.Soundness.{IsSound, first_flaw}
use Rattle.mib_keys.specs.declared.fault.SoundFault.{SoundFault}
use Rattle.mib_keys.specs.declared.fault.SoundFault.TheVariants as faults

-- the fault of an answer is the first flaw; want of memory says nothing
abbrev pub Names : SoundFault → Database → Type 0
Names faults.Memory db = ⊤
Names (faults.Mib fault) db = first_flaw db ≡ Some fault

-- an answer without a fault says that no flaw stands
abbrev pub Gives : Result (Unit {0}) SoundFault → Database → Type 0
Gives (Ok done) db = IsSound db
Gives (Err fault) db = Names fault db
