-- What a slot keeps of a parameter, as mib_model defines it. [This profile.]
use Rattle.std.specs.Prelude.{ℕ, ℤ, ◌-ℤ◌, Bool, List, Option, Some, None, if◌then◌else◌, pos, false}
use Rattle.param_state.specs.declared.slot.ParamSlot.{ParamSlot}
use Rattle.mib_model.specs.Alarms.{Watch}
use Rattle.mib_model.specs.Checks.{Sample}
use Rattle.mib_model.specs.declared.check.Change.{Change}
use Rattle.mib_model.specs.Finish.{kept_after}
use Rattle.mib_model.specs.Kept.{Kept}
use Rattle.param_plan.specs.Slices.{ParamSlice}

-- a number where there is one
abbrev pub number_if : Bool → ℤ → Option ℤ
number_if there number = if there then Some number else None

-- a number of which the last 64 bits are kept, and whether it is below zero
abbrev pub turned_back : Bool → ℕ → ℤ
turned_back is_low bits = if is_low then pos bits -ℤ pos 18446744073709551616 else pos bits

-- what a slot keeps
abbrev pub kept_as : ParamSlot → Kept
kept_as slot = record {
  latest = number_if slot.has_latest (turned_back slot.is_low slot.latest);
  spoken = slot.alarm.0;
  run = slot.alarm.1;
  previous = number_if slot.has_previous slot.previous.count;
}

-- what is kept and told of a parameter after a sample, where its alarm took a step
abbrev pub stepped : Kept → Sample → Watch × Option Change → Kept × Option Change
stepped kept sample step = (kept_after kept sample step.0, step.1)

-- the name of a slot
abbrev pub slot_name : ParamSlot → List ℕ
slot_name slot = slot.name

-- a slot of a name that keeps nothing
abbrev pub vacant : List ℕ → ParamSlot
vacant name = record {
  latest = 0;
  name = name;
  is_low = false;
  has_latest = false;
  has_previous = false;
  alarm = (None, 0);
  previous = record { count = pos 0 };
}

-- the slot of a plan that keeps nothing
abbrev pub vacant_for : ParamSlice → ParamSlot
vacant_for slice = vacant slice.pcf.name
