-- What is kept of each parameter from packet to packet, and the conditions on it. [This profile.]
use Rattle.std.specs.Prelude.{ℕ, ℤ, Bool, true, false, List, Option, Some, None, fold, if◌then◌else◌}
use Rattle.std.specs.Option.{option_eq}
use Rattle.std.specs.Ordering.{int_eq}
use Rattle.std.specs.Str.{bytes_eq}
use Rattle.mib_model.specs.declared.check.Class.{Class}
use Rattle.mib_model.specs.declared.packet.Value.{Value}
use Rattle.mib_model.specs.declared.shape.Sort.{Sort}
use Rattle.mib_model.specs.declared.shape.Sort.TheVariants.{Unsigned, Signed}

-- what is kept of a parameter: the latest raw number, the class that is spoken of, the run of samples out of limits, and the
-- last checked number
pub record Kept : Type 0 where
  pub latest : Option ℤ
  pub spoken : Option Class
  pub run : ℕ
  pub previous : Option ℤ

-- what is kept of a name of which no value was seen
abbrev pub nothing_kept : Kept
nothing_kept = record { latest = None; spoken = None; run = 0; previous = None }

-- what is kept of each name
abbrev pub Memory : Type 0
Memory = List ℕ → Kept

-- at the start nothing is kept
abbrev pub empty_memory : Memory
empty_memory name = nothing_kept

-- the memory with something else kept of one name
abbrev pub keeping : Memory → List ℕ → Kept → Memory
keeping memory name kept other = if bytes_eq other name then kept else memory other

-- a condition holds where the latest raw number of its name is its number
abbrev pub holds : Memory → List ℕ → ℤ → Bool
holds memory name number = option_eq int_eq (memory name).latest (Some number)

-- whether there is no condition, or one that holds
abbrev pub is_met : Memory → Option (List ℕ) → ℤ → Bool
is_met memory None number = true
is_met memory (Some name) number = holds memory name number

-- whether values of a sort have raw numbers
abbrev pub has_number : Sort → Bool
has_number Unsigned = true
has_number Signed = true
has_number other = false

-- the memory after a value: its raw number is the latest of its name
abbrev pub entered : Memory → Value → Memory
entered memory value =
    if has_number value.shape.sort then keeping memory value.name (record (memory value.name) { latest = Some value.raw }) else memory

-- the memory after the raw numbers of values were entered, in their order
abbrev pub all_entered : Memory → List Value → Memory
all_entered memory values = fold entered memory values
