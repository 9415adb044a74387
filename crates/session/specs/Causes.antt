-- Which fault comes with which count of faults. [This profile.]
use Rattle.std.specs.Prelude.{◌≡◌, ℕ, ⊤}
use Rattle.tm_io.specs.Causes.{HasRisen}
use Rattle.mib_rows.specs.declared.read_fault.ReadFault.{ReadFault}
use Rattle.mib_rows.specs.declared.read_fault.ReadFault.TheVariants as reads
use Rattle.whole_texts.specs.declared.text_fault.TextFault.{TextFault}
use Rattle.whole_texts.specs.declared.text_fault.TextFault.TheVariants as texts
use Rattle.session.specs.declared.load_fault.LoadFault.{LoadFault}
use Rattle.session.specs.declared.load_fault.LoadFault.TheVariants as faults

-- the count rose where the fault says so, and is as it was with each other
abbrev pub HasLoadCause : LoadFault → ℕ → ℕ → Type 0
HasLoadCause faults.Failed before now = HasRisen before now
HasLoadCause other before now = now ≡ before

-- the fault of a load that a fault of reading is
abbrev pub load_fault : ReadFault → LoadFault
load_fault (reads.Mib fault) = faults.Mib fault
load_fault reads.Memory = faults.Memory

-- the fault of a load for which a text wasn't read
abbrev pub stop_fault : TextFault → LoadFault
stop_fault texts.Failed = faults.Failed
stop_fault texts.Memory = faults.Memory

-- the faults that reading a file may end with
abbrev pub IsReadStop : LoadFault → Type 0
IsReadStop (faults.Mib fault) = ⊥
IsReadStop other = ⊤

-- the faults that reading a text may end with
abbrev pub IsTextStop : LoadFault → Type 0
IsTextStop faults.Failed = ⊥
IsTextStop other = ⊤
