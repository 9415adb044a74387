-- What a calibration gives, and the bounds of its steps. [This profile.]
use Rattle.std.specs.Prelude.{ℕ, ℤ, nat_abs, Bool, List, nat_le, ◌||◌, if◌then◌else◌, Result, Ok, Err}
use Rattle.mib_model.specs.declared.limits.TheConstants.{RESULT_BOUND, STEP_BOUND}
use Rattle.mib_model.specs.declared.number.Over.{Over}

-- a count of 10^-12, a status text, or why there is none
pub data Calibrated : Type 0 where
  Counted : (count : ℤ) → Calibrated
  StatusText : (text : List ℕ) → Calibrated
  NoText : Calibrated
  Outside : Calibrated
  TooLarge : Calibrated
  LogCurve : Calibrated
  RealCurve : Calibrated

-- a step that reaches its bound, 10^37
abbrev pub is_wide : ℤ → Bool
is_wide z = nat_le STEP_BOUND (nat_abs z)

-- a result that reaches its bound, 10^36
abbrev pub is_wide_result : ℤ → Bool
is_wide_result z = nat_le RESULT_BOUND (nat_abs z)

-- a result, refused where one of its steps or itself reaches its bound
abbrev pub bounded : Bool → ℤ → Result ℤ Over
bounded has_wide_step y = if has_wide_step || is_wide_result y then Err (record {}) else Ok y

-- a result as a number, or that it is too large
abbrev pub calibrated : Result ℤ Over → Calibrated
calibrated (Ok count) = Counted count
calibrated (Err over) = TooLarge
