-- Why tables are not made an edition. [This profile.]
use Rattle.std.specs.Prelude.{◌≡◌, Some, ⊤}
use Rattle.edition.specs.declared.fault.SaveFault.{SaveFault}
use Rattle.edition.specs.declared.fault.SaveFault.TheVariants as faults
use Rattle.mib_keys.specs.declared.fault.SoundFault.{SoundFault}
use Rattle.mib_keys.specs.declared.fault.SoundFault.TheVariants as sounds
use Rattle.mib_model.specs.declared.database.Database.{Database}
use Rattle.mib_model.specs.Soundness.{first_flaw}

-- the fault of tables whose test gave a fault
abbrev pub save_fault_of : SoundFault → SaveFault
save_fault_of (sounds.Mib fault) = faults.Mib fault
save_fault_of sounds.Memory = faults.Memory

-- a fault is the first flaw of the tables; want of memory says nothing
abbrev pub Refuses : Database → SaveFault → Type 0
Refuses db faults.Memory = ⊤
Refuses db (faults.Mib fault) = first_flaw db ≡ Some fault
