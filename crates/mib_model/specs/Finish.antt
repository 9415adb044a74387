-- How a value is finished: validity, calibration, check and alarm, with what is kept once all raw numbers of its packet are
-- entered. [SCOS-2000 Database Import ICD, pcf, cur, ocf and ocp; the order is this profile's.]
use Rattle.std.specs.Prelude.{ℕ, ℤ, Bool, List, [], ◌∷◌, Option, Some, None, option_map, ◌==◌, if◌then◌else◌}
use Rattle.mib_model.specs.declared.check.Change.{Change}
use Rattle.mib_model.specs.declared.packet.Value.{Value}
use Rattle.mib_model.specs.declared.rows.OcfRow.{OcfRow}
use Rattle.mib_model.specs.declared.rows.PcfRow.{PcfRow}
use Rattle.mib_model.specs.Alarms.{Watch, alarm}
use Rattle.mib_model.specs.Calibrated.{Calibrated}
use Rattle.mib_model.specs.Calibrated as calibrated
use Rattle.mib_model.specs.Carry.{check_of}
use Rattle.mib_model.specs.Checks.{Sample, Numbered, Worded, checks_of, class_of}
use Rattle.mib_model.specs.Curves.{curve_of, calibration}
use Rattle.mib_model.specs.Database.{Database}
use Rattle.mib_model.specs.Counts.{raw_count}
use Rattle.mib_model.specs.Kept.{Kept, Memory, keeping, has_number, is_met}
use Rattle.mib_model.specs.Letters.{letter}
use Rattle.mib_model.specs.Parameters.{parameter}
use Rattle.mib_model.specs.Tails.{Tail, Plain, Given, Invalid, Told}

-- a parameter is valid where it names no condition, or where the condition holds
abbrev pub is_valid : Memory → PcfRow → Bool
is_valid memory row = is_met memory row.valid row.valpar

-- what the curve of a parameter makes of a value, if the value has a number and there is a curve
abbrev pub given_for : Database → PcfRow → Memory → Value → Option Calibrated
given_for db row memory v = if has_number v.shape.sort then option_map (λ rows. calibration rows v.raw) (curve_of db row memory) else None

-- the tail of a valid value, for so many decimals: nothing where no curve is taken
abbrev pub tail_for : ℕ → Option Calibrated → Tail
tail_for decimals None = Plain
tail_for decimals (Some given) = Given given decimals

-- what a calibration leaves to check: its number or its text, the raw number where there is no curve, and else nothing
abbrev pub converted : ℤ → Option Calibrated → Option Sample
converted raw None = Some (Numbered (raw_count raw))
converted raw (Some (calibrated.Counted count)) = Some (Numbered count)
converted raw (Some (calibrated.StatusText text)) = Some (Worded text)
converted raw (Some other) = None

-- the sample of a checked value: with INTER `U` its raw number, else what its calibration leaves to check
abbrev pub sample_for : OcfRow → ℤ → Option Calibrated → Option Sample
sample_for check raw given = if check.inter == letter "U" then Some (Numbered (raw_count raw)) else converted raw given

-- the last checked number, after a sample
abbrev pub previous_after : Sample → Option ℤ → Option ℤ
previous_after (Numbered count) previous = Some count
previous_after (Worded text) previous = previous

-- what is kept of a name after a sample and a step of the alarm
abbrev pub kept_after : Kept → Sample → Watch → Kept
kept_after kept sample watch = record kept { spoken = watch.0; run = watch.1; previous = previous_after sample kept.previous }

-- what is kept of all names, and what is told
abbrev pub CheckedValue : Type 0
CheckedValue = Memory × Option Change

-- what is kept of all names and told after a step of the alarm of one
abbrev pub with_alarm : Memory → List ℕ → Sample → Watch × Option Change → CheckedValue
with_alarm memory name sample step = (keeping memory name (kept_after (memory name) sample step.0), step.1)

-- a sample is classed, and the alarm takes a step
abbrev pub checked_sample : Database → Memory → List ℕ → OcfRow → Option Sample → CheckedValue
checked_sample db memory name check None = (memory, None)
checked_sample db memory name check (Some sample) =
    with_alarm memory name sample
    (alarm ((memory name).spoken, (memory name).run) (class_of (checks_of db name) sample (memory name).previous memory) check.nbchck)

-- a value with a number is checked where its parameter has a check
abbrev pub checked_by : Database → Memory → Value → Option Calibrated → Option OcfRow → CheckedValue
checked_by db memory v given None = (memory, None)
checked_by db memory v given (Some check) =
    if has_number v.shape.sort then checked_sample db memory v.name check (sample_for check v.raw given) else (memory, None)

-- what is kept, and what is told of a value
abbrev pub Finished : Type 0
Finished = Memory × Told

-- a value with its tail and what its check tells
abbrev pub told : Value → Tail → CheckedValue → Finished
told v tail checked = (checked.0, record { value = v; tail = tail; change = checked.1 })

-- a valid value is calibrated and checked, an invalid one is neither
abbrev pub finished_by : Database → Memory → Value → Option PcfRow → Finished
finished_by db memory v None = told v Plain (memory, None)
finished_by db memory v (Some row) =
    if is_valid memory row
    then told v (tail_for row.decim (given_for db row memory v)) (checked_by db memory v (given_for db row memory v) (check_of db v.name))
    else told v Invalid (memory, None)

-- what is kept after a value, and what is told of it
unfoldable pub finished : Database → Memory → Value → Finished
finished db memory v = finished_by db memory v (parameter db.pcf v.name)

-- what is told of a value, in front of what is told of those behind it
abbrev pub in_front : Told → Memory × List Told → Memory × List Told
in_front first others = (others.0, first ∷ others.1)

-- what is kept after the values of a packet in their order, and what is told of each, by what is kept after the ones before
unfoldable pub all_finished : Database → Memory → List Value → Memory × List Told
all_finished db memory [] = (memory, [])
all_finished db memory (v ∷ vs) = in_front (finished db memory v).1 (all_finished db (finished db memory v).0 vs)
