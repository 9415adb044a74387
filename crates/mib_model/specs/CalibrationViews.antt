-- What a calibration gives, as the program has it. [This profile.]
use Rattle.mib_model.specs.declared.calibration.Cal.{Cal}
use Rattle.mib_model.specs.declared.calibration.Cal.TheVariants as cal
use Rattle.mib_model.specs.Calibrated.{Calibrated, Counted, StatusText, NoText, Outside, TooLarge, LogCurve, RealCurve}

-- a calibration's answer as its count, its status text, or why there is none
abbrev pub calibrated_as : Cal → Calibrated
calibrated_as (cal.Value v) = Counted v.count
calibrated_as (cal.Text text) = StatusText text.now
calibrated_as cal.NoText = NoText
calibrated_as cal.Outside = Outside
calibrated_as cal.Over = TooLarge
calibrated_as cal.LogCurve = LogCurve
calibrated_as cal.RealCurve = RealCurve
