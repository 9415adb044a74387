-- The line of a value, as far as it is known before it is known what is kept. [This profile.]
use Rattle.std.specs.Prelude.{◌≡◌, ℕ, ℤ, true, Option, None, List, ◌++◌, length, drop}
use Rattle.check_plan.specs.Rows.{CheckRows}
use Rattle.line_marks.specs.declared.mark.Mark.{Mark}
use Rattle.line_marks.specs.declared.mark.Mark.TheVariants as mark
use Rattle.mib_model.specs.declared.check.Class.TheVariants.{Nominal}
use Rattle.mib_model.specs.declared.packet.Value.{Value}
use Rattle.mib_model.specs.declared.database.Database.{Database}
use Rattle.mib_model.specs.Alarms.{alarm}
use Rattle.mib_model.specs.AlarmTexts.{change_text_of}
use Rattle.mib_model.specs.Calibrated.{Calibrated}
use Rattle.mib_model.specs.Checks.{Numbered, Sample, class_of}
use Rattle.mib_model.specs.Finish.{CheckedValue, with_alarm, finished, is_valid}
use Rattle.mib_model.specs.Kept.{Memory, empty_memory}
use Rattle.mib_model.specs.Texts.{told_text}
use Rattle.param_plan.specs.Slices.{ParamSlice, curve_in}
use Rattle.param_state.specs.FinishedValues.{checked_given}

-- what is kept after a value, and the octets of its lines
abbrev pub Shown : Type 0
Shown = Memory × List ℕ

-- what is kept after a value of a packet, and its lines, by the definitions
abbrev pub finished_lines : Database → List ℕ → Memory → Value → Shown
finished_lines db packet memory v = ((finished db memory v).0, told_text packet (finished db memory v).1)

-- what is kept and told of a name after a nominal number
abbrev pub after_nominal : Memory → List ℕ → ℤ → CheckedValue
after_nominal memory name count = with_alarm memory name (Numbered count) (alarm ((memory name).spoken, (memory name).run) Nominal 0)

-- what is kept after a nominal number of a name, and the line of what it ends
abbrev pub told_after_nominal : Memory → List ℕ → ℤ → Shown
told_after_nominal memory name count = ((after_nominal memory name count).0, change_text_of name (after_nominal memory name count).1)

-- a value was finished as it is shown: what is kept after it, and its lines behind a text
pub record HasShown (shown : Shown) (after : Memory) (old new : List ℕ) : Type 0 where
  pub memory : after ≡ shown.0
  pub text : new ≡ old ++ shown.1

-- what stands behind a text
abbrev pub behind : List ℕ → List ℕ → List ℕ
behind old new = drop (length old) new

-- a mark, and the octets of the line that it is for
abbrev pub MarkedLine : Type 0
MarkedLine = Mark × List ℕ

-- what is kept after a value, and its lines, by a marked line: as it stands; with what a nominal number ends; or still to be found
abbrev pub shown_by : MarkedLine → Database → List ℕ → Memory → Value → Shown
shown_by (mark.Told, line) db packet memory v = (memory, line)
shown_by (mark.Nominal number, line) db packet memory v =
    ((told_after_nominal memory v.name number.count).0, line ++ (told_after_nominal memory v.name number.count).1)
shown_by (mark.Open, line) db packet memory v = finished_lines db packet memory v

-- a marked line shows a value of a packet, whatever is kept
abbrev pub IsShown : Database → List ℕ → Value → MarkedLine → Type 0
IsShown db packet v line = (memory : Memory) → shown_by line db packet memory v ≡ finished_lines db packet memory v

-- what a mark says of a sample that is checked: its number is nominal, whatever is kept and whatever the last number was; the others say nothing
abbrev pub IsMarkOf : CheckRows → Sample → Mark → Type 0
IsMarkOf rows sample mark.Told = ⊥
IsMarkOf rows sample (mark.Nominal number) =
    (sample ≡ Numbered number.count) × ((previous : Option ℤ) (memory : Memory) → class_of rows.ocps sample previous memory ≡ Nominal)
IsMarkOf rows sample mark.Open = Unit {0}

-- what a mark says of a value whose number was calibrated so, whatever is kept: nothing is told or kept; what a nominal number leaves; or nothing
abbrev pub IsMarked : Database → Value → Option Calibrated → Mark → Type 0
IsMarked db v given mark.Told = (memory : Memory) → ◌≡◌ {A = CheckedValue} (memory, None) (checked_given db memory v given)
IsMarked db v given (mark.Nominal number) = (memory : Memory) → after_nominal memory v.name number.count ≡ checked_given db memory v given
IsMarked db v given mark.Open = Unit {0}

-- values of a parameter are valid, and calibrated by one curve or none, whatever is kept
pub record IsSettled (s : ParamSlice) : Type 0 where
  pub valid : (memory : Memory) → is_valid memory s.pcf ≡ true
  pub curve : (memory : Memory) → curve_in s memory ≡ curve_in s empty_memory
