-- Which fault of a reading comes with which count of faults. [This profile.]
use Rattle.std.specs.Prelude.{◌≡◌, ℕ}
use Rattle.tm_io.specs.Causes.{HasRisen}
use Rattle.whole_texts.specs.declared.text_fault.TextFault.{TextFault}
use Rattle.whole_texts.specs.declared.text_fault.TextFault.TheVariants as faults

-- the count of the source rose where it failed, and is as it was where memory ran out
abbrev pub HasTextCause : TextFault → ℕ → ℕ → Type 0
HasTextCause faults.Failed before now = HasRisen before now
HasTextCause faults.Memory before now = now ≡ before
