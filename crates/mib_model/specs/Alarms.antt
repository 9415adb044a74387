-- What is told of a parameter whose samples are checked. [SCOS-2000 Database Import ICD, ocf, number of checks; the steps are this profile's.]
use Rattle.std.specs.Prelude.{ℕ, ◌+◌, min, Bool, true, false, Option, Some, None, option_map, ◌==◌, if◌then◌else◌}
use Rattle.mib_model.specs.declared.check.Class.{Class}
use Rattle.mib_model.specs.declared.check.Class.TheVariants.{Nominal, Hard, Status, Delta, Soft}
use Rattle.mib_model.specs.declared.check.Change.{Change}
use Rattle.mib_model.specs.declared.check.Change.TheVariants.{Alarm, Clear}

-- whether two classes are equal
abbrev pub same_class : Class → Class → Bool
same_class Nominal Nominal = true
same_class Hard Hard = true
same_class Status Status = true
same_class Delta Delta = true
same_class Soft Soft = true
same_class c d = false

-- the class that is spoken of, and the run of samples out of limits
abbrev pub Watch : Type 0
Watch = Option Class × ℕ

-- a sample out of limits: the run grows up to the repeats; a class that is spoken of and differs is told at once,
-- and where none is spoken of it is told once the run is full
abbrev pub out_of_limits : Option Class → ℕ → Class → ℕ → Watch × Option Change
out_of_limits (Some spoken) run class repeats =
    if same_class spoken class then ((Some spoken, run), None) else ((Some class, run), Some (Alarm class))
out_of_limits None run class repeats =
    if run == repeats then ((Some class, run), Some (Alarm class)) else ((None, run), None)

-- a nominal sample ends the run and clears what was spoken of; each other goes on with the run of its class, which is spoken of once it is long enough
unfoldable pub alarm : Watch → Class → ℕ → Watch × Option Change
alarm watch Nominal repeats = ((None, 0), option_map (λ spoken. Clear spoken) watch.0)
alarm watch class repeats = out_of_limits watch.0 (min (watch.1 + 1) repeats) class repeats
