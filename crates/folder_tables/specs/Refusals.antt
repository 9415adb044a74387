-- Why the tables of a folder are not to be had. [This profile.]
use Rattle.std.specs.Prelude.{◌≡◌, ℕ, Result, Err, ⊤}
use Rattle.tm_io.specs.Causes.{HasRisen}
use Rattle.session.specs.declared.load_fault.LoadFault.{LoadFault}
use Rattle.session.specs.declared.load_fault.LoadFault.TheVariants as loads
use Rattle.mib_keys.specs.declared.fault.SoundFault.{SoundFault}
use Rattle.mib_keys.specs.declared.fault.SoundFault.TheVariants as sounds
use Rattle.run_model.specs.declared.code.Code.{Code}
use Rattle.run_model.specs.declared.code.Code.TheVariants as code
use Rattle.mib_model.specs.declared.fault.MibFault.{MibFault}
use Rattle.folder_tables.specs.declared.folder.Refusal.{Refusal}
use Rattle.folder_tables.specs.declared.folder.Refusal.TheVariants as refusal

-- the refusal that a fault of a load is
abbrev pub refusal_of : LoadFault → Refusal
refusal_of (loads.Mib fault) = refusal.Mib fault
refusal_of loads.Failed = refusal.Failed
refusal_of loads.Memory = refusal.Memory

-- the refusal that a flaw of the tables is
abbrev pub refusal_of_flaw : SoundFault → Refusal
refusal_of_flaw (sounds.Mib fault) = refusal.Mib fault
refusal_of_flaw sounds.Memory = refusal.Memory

-- tables are refused with just the fault that reading them gives
abbrev pub Refuses : {Made : Type 0} → Refusal → Result Made MibFault → Type 0
Refuses (refusal.Mib fault) read = read ≡ Err fault
Refuses refusal.Failed read = ⊤
Refuses refusal.Memory read = ⊤

-- the count of the tables rose where they couldn't be read, and else stands
abbrev pub HasRefusalCause : Refusal → ℕ → ℕ → Type 0
HasRefusalCause (refusal.Mib fault) before now = now ≡ before
HasRefusalCause refusal.Failed before now = HasRisen before now
HasRefusalCause refusal.Memory before now = now ≡ before

-- the code of a refusal
abbrev pub code_of_refusal : Refusal → Code
code_of_refusal (refusal.Mib fault) = code.BadMib fault
code_of_refusal refusal.Failed = code.TablesFault
code_of_refusal refusal.Memory = code.Want
