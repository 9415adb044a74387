-- Limits with their bounds as counts. [SCOS-2000 Database Import ICD, ocp.]
use Rattle.std.specs.Prelude.{ℕ, ℤ, pos, int_lt, Bool, true, false, ◌==◌, ◌&&◌, ◌||◌, not, List}
use Rattle.std.specs.List.{list_any}
use Rattle.std.specs.Option.{is_some}
use Rattle.check_plan.specs.declared.asked.AskedLimit.{AskedLimit}
use Rattle.check_plan.specs.declared.limit.Limit.{Limit}
use Rattle.mib_model.specs.declared.rows.Bound.{Bound}
use Rattle.mib_model.specs.declared.rows.Bound.TheVariants as bound
use Rattle.mib_model.specs.declared.rows.OcpRow.{OcpRow}
use Rattle.mib_model.specs.Checks.{is_status}
use Rattle.mib_model.specs.Counts as counts
use Rattle.mib_model.specs.Kept.{Memory, is_met}

-- whether a bound binds counts
abbrev pub binds : Bound → Bool
binds (bound.Number d) = true
binds other = false

-- the count of a bound, 0 where it doesn't bind counts
abbrev pub bound_count : Bound → ℤ
bound_count (bound.Number d) = counts.count_of d
bound_count other = pos 0

-- the type and the bounds of a row
abbrev pub limit_of : OcpRow → Limit
limit_of row = record {
  low = bound_count row.lvalu;
  high = bound_count row.hvalu;
  has_low = binds row.lvalu;
  has_high = binds row.hvalu;
  sort = row.sort;
}

-- a count below the low bound or above the high one, where they bind
abbrev pub is_outside : Limit → ℤ → Bool
is_outside limit count = (limit.has_low && int_lt count limit.low) || (limit.has_high && int_lt limit.high count)

-- whether a limit is of a type, and a count is outside its bounds
abbrev pub is_passed : ℕ → ℤ → Limit → Bool
is_passed sort count limit = limit.sort == sort && is_outside limit count

-- ---- conditions

-- a limit or delta without a condition
abbrev pub is_unasked : OcpRow → Bool
is_unasked row = not (is_status row) && not (is_some row.rlchk)

-- a limit or delta with a condition
abbrev pub is_asked : OcpRow → Bool
is_asked row = not (is_status row) && is_some row.rlchk

-- the limit that a row with a condition stands for
abbrev pub asked_limit_of : OcpRow → AskedLimit
asked_limit_of row = record { limit = limit_of row; rlchk = row.rlchk; valpar = row.valpar }

-- whether the condition of a limit holds
abbrev pub applies_to : Memory → AskedLimit → Bool
applies_to memory asked = is_met memory asked.rlchk asked.valpar

-- whether a count is outside one of the limits of a type that apply
abbrev pub any_asked_passed : Memory → ℕ → ℤ → List AskedLimit → Bool
any_asked_passed memory sort count limits = list_any (λ asked. is_passed sort count asked.limit && applies_to memory asked) limits

-- whether a count is outside one of the limits of a type, without a condition or with one that holds
abbrev pub any_passed : Memory → ℕ → ℤ → List Limit → List AskedLimit → Bool
any_passed memory sort count limits asked = list_any (is_passed sort count) limits || any_asked_passed memory sort count asked
