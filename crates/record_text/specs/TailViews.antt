-- Tails as the program has them. [This profile.]
use Rattle.std.specs.Prelude.{Bool, true, false}
use Rattle.mib_model.specs.declared.calibration.Cal.{Cal}
use Rattle.mib_model.specs.declared.calibration.Cal.TheVariants as cal
use Rattle.mib_model.specs.CalibrationViews.{calibrated_as}
use Rattle.mib_model.specs.Tails as told
use Rattle.record_text.specs.declared.tail.Tail.{Tail}
use Rattle.record_text.specs.declared.tail.Tail.TheVariants.{Plain, Given, Invalid}

-- a tail as nothing, what a calibration gave, or that the value is invalid
abbrev pub tail_as : Tail → told.Tail
tail_as Plain = told.Plain
tail_as (Given cal decimals) = told.Given (calibrated_as cal) decimals
tail_as Invalid = told.Invalid

-- whether a calibration gave a number or a text
abbrev pub gives : Cal → Bool
gives (cal.Value v) = true
gives (cal.Text text) = true
gives other = false
