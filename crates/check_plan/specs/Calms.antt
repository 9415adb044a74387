-- The counts of which nothing is told, whatever is kept and whatever the last number was. [This profile.]
use Rattle.std.specs.Prelude.{ℤ, int_lt, Bool, false, ◌==◌, ◌&&◌, ◌||◌, not}
use Rattle.check_plan.specs.declared.fast.Calm.{Calm}
use Rattle.check_plan.specs.declared.limit.Limit.{Limit}
use Rattle.mib_model.specs.Checks.{Sample, Numbered, Worded}
use Rattle.mib_model.specs.Letters.{letter}
use Rattle.check_plan.specs.Limits.{is_outside}

-- whether a count is among those from one to another
abbrev pub is_in : Calm → ℤ → Bool
is_in calm count = not (int_lt count calm.low) && not (int_lt calm.high count)

-- whether a sample is a number among them
abbrev pub is_calm : Calm → Sample → Bool
is_calm calm (Numbered count) = is_in calm count
is_calm calm (Worded text) = false

-- whether a limit may tell of a count: it is outside the bounds, or the limit is of steps
abbrev pub may_tell : ℤ → Limit → Bool
may_tell count limit = limit.sort == letter "D" || is_outside limit count
