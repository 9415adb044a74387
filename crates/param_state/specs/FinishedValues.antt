-- Values of a packet as they are finished, by the definitions. [This profile.]
use Rattle.std.specs.Prelude.{◌≡◌, ◌≤ℤ◌, ℕ, List, ◌++◌, Option, Some, None, ℤ, pos}
use Rattle.std.specs.List.{flat_map}
use Rattle.check_plan.specs.Rows.{CheckRows}
use Rattle.mib_model.specs.declared.packet.Value.{Value}
use Rattle.mib_model.specs.Alarms.{alarm}
use Rattle.mib_model.specs.Calibrated.{Calibrated}
use Rattle.mib_model.specs.Carry.{check_of}
use Rattle.mib_model.specs.Checks.{Sample, class_of}
use Rattle.mib_model.specs.declared.database.Database.{Database}
use Rattle.mib_model.specs.Finish.{CheckedValue, with_alarm, checked_by, finished, all_finished, told}
use Rattle.mib_model.specs.Kept.{Memory}
use Rattle.mib_model.specs.WholeNumbers.{least_raw, greatest_raw}
use Rattle.mib_model.specs.Texts.{told_text}
use Rattle.mib_model.specs.Tails.{Plain}
use Rattle.mib_model.specs.declared.shape.Order.TheVariants.{Big}
use Rattle.mib_model.specs.declared.shape.Sort.TheVariants.{Octets, Signed}
use Rattle.mib_model.specs.Encodings.{Encoding}

-- a value's number is a raw number, from -2^63 to 2^64 - 1
abbrev pub IsRaw : Value → Type 0
IsRaw v = (least_raw ≤ℤ v.raw) × (v.raw ≤ℤ greatest_raw)

-- a value was finished: what is kept after it, and its lines behind a text
pub record IsFinished (db : Database) (packet : List ℕ) (v : Value) (before after : Memory) (old new : List ℕ) : Type 0 where
  pub memory : after ≡ (finished db before v).0
  pub text : new ≡ old ++ told_text packet (finished db before v).1

-- values were finished in their order: what is kept after them, and their lines behind a text
pub record AreFinished (db : Database) (packet : List ℕ) (vs : List Value) (before after : Memory) (old new : List ℕ) : Type 0 where
  pub memory : after ≡ (all_finished db before vs).0
  pub text : new ≡ old ++ flat_map (told_text packet) (all_finished db before vs).1

-- what is kept and told after a sample by the rows of a plan
abbrev pub checked_in : Memory → List ℕ → CheckRows → Sample → CheckedValue
checked_in memory name rows sample =
    with_alarm memory name sample
    (alarm ((memory name).spoken, (memory name).run) (class_of rows.ocps sample (memory name).previous memory) rows.ocf.nbchck)

-- what is kept and told after a value, by what a curve makes of it and by the check of its name
abbrev pub checked_given : Database → Memory → Value → Option Calibrated → CheckedValue
checked_given db memory v given = checked_by db memory v given (check_of db v.name)

-- of a value the raw number alone is told, and nothing is kept, whatever was
abbrev pub IsToldPlain : Database → Value → Type 0
IsToldPlain db v = (memory : Memory) → told v Plain (memory, None) ≡ finished db memory v

-- the shape of a value with a raw number
abbrev pub signed_octet : Encoding
signed_octet = record { sort = Signed; width = 8; order = Big }

-- the shape of a value without one
abbrev pub one_octet : Encoding
one_octet = record { sort = Octets; width = 8; order = Big }

-- a value of a name with a raw number or none
abbrev pub bare_value : List ℕ → Option ℤ → Value
bare_value name None = record { raw = pos 0; at = 0; name = name; shape = one_octet }
bare_value name (Some raw) = record { raw = raw; at = 0; name = name; shape = signed_octet }
