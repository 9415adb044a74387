-- Counts of 10^-12: of decimals and of raw numbers, and their texts. [This profile.]
use Rattle.std.specs.Prelude.{ℕ, zero, suc, ◌+◌, ◌-◌, ◌*◌, ◌/◌, ◌%◌, ◌^◌, min, ℤ, pos, negsuc, ◌+ℤ◌, ◌*ℤ◌, nat_abs, int_lt, List, ◌++◌, codes, decimal, nat_le, if◌then◌else◌}
use Rattle.mib_model.specs.declared.limits.TheConstants.{STEP_BOUND}
use Rattle.mib_model.specs.declared.number.Dec.{Dec}
use Rattle.mib_model.specs.Decimals.{with_sign}
use Rattle.mib_model.specs.Digits.{decimal_of_width}

-- the whole number nearest to a / b, for b above 0; a tie goes away from zero
unfoldable pub half : ℤ → ℕ → ℤ
half a b = with_sign (int_lt a (pos 0)) ((2 * nat_abs a + b) / (2 * b))

-- a count is held to a magnitude of 10^37
abbrev pub held : ℤ → ℤ
held count = if nat_le STEP_BOUND (nat_abs count) then with_sign (int_lt count (pos 0)) STEP_BOUND else count

-- m times 10^e, rounded where e is below 0
abbrev pub times_power : ℤ → ℤ → ℤ
times_power m (pos e) = m *ℤ pos (10 ^ e)
times_power m (negsuc e) = half m (10 ^ (e + 1))

-- the count of a decimal: m·10^(e + 12), rounded and held
unfoldable pub count_of : Dec → ℤ
count_of d = held (times_power d.m (d.e +ℤ pos 12))

-- the count of a raw number
abbrev pub raw_count : ℤ → ℤ
raw_count raw = raw *ℤ pos (10 ^ 12)

-- a magnitude with a point before so many decimals; no point where there are none
abbrev pub pointed : ℕ → ℕ → List ℕ
pointed zero n = decimal n
pointed (suc d) n = decimal (n / 10 ^ (d + 1)) ++ codes "." ++ decimal_of_width (d + 1) (n % 10 ^ (d + 1))

-- a number with its sign, with a point before so many decimals
abbrev pub signed_pointed : ℕ → ℤ → List ℕ
signed_pointed d n = if int_lt n (pos 0) then codes "-" ++ pointed d (nat_abs n) else pointed d (nat_abs n)

-- the text of a count with some decimals; more than 12 are 12
unfoldable pub count_text : ℤ → ℕ → List ℕ
count_text count decimals = signed_pointed (min decimals 12) (half count (10 ^ (12 - min decimals 12)))
