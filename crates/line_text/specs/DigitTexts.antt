-- The texts of engineering values by their digits. [This profile.]
use Rattle.std.specs.Prelude.{ℕ, zero, suc, List, [], ◌++◌, Bool, if◌then◌else◌, take, codes, decimal}
use Rattle.line_text.specs.ShortTexts.{four_digits}
use Rattle.line_text.specs.declared.fast.count.CountDigits.{CountDigits}

-- a minus, or nothing
abbrev pub minus_text : Bool → List ℕ
minus_text minus = if minus then codes "-" else []

-- a point and the first digits of four; nothing where there are none
abbrev pub behind_text : ℕ → ℕ → List ℕ
behind_text zero four = []
behind_text (suc d) four = codes "." ++ take (suc d) (four_digits four)

-- a minus where there is one, the whole part, and so many decimals behind a point
abbrev pub digits_text : CountDigits → ℕ → List ℕ
digits_text digits decimals = minus_text digits.minus ++ decimal digits.whole ++ behind_text decimals digits.behind
