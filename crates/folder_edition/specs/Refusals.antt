-- Why a book makes no edition. [This profile.]
use Rattle.edition.specs.declared.fault.SaveFault.{SaveFault}
use Rattle.edition.specs.declared.fault.SaveFault.TheVariants as saves
use Rattle.folder_tables.specs.declared.folder.Refusal.{Refusal}
use Rattle.folder_tables.specs.declared.folder.Refusal.TheVariants as refusal

-- the refusal that a fault of compiling is
abbrev pub refusal_of_save : SaveFault → Refusal
refusal_of_save (saves.Mib fault) = refusal.Mib fault
refusal_of_save saves.Memory = refusal.Memory
