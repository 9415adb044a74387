-- The texts of small numbers. [This profile.]
use Rattle.std.specs.Prelude.{ℕ, ◌+◌, ◌/◌, ◌%◌, List, [], ◌∷◌, map, take, decimal}
use Rattle.std.specs.List.{range_with_len}
use Rattle.line_text.specs.declared.fast.short.Short.{Short}

-- the four digits of a number below 10,000, with zeros in front
abbrev pub four_digits : ℕ → List ℕ
four_digits n = (48 + n / 1000) ∷ (48 + n / 100 % 10) ∷ (48 + n / 10 % 10) ∷ (48 + n % 10) ∷ []

-- the digits of a short text, without the octets behind them
abbrev pub digits_of : Short → List ℕ
digits_of short = take short.count short.digits

-- the digits of a short text, and its four digits
abbrev pub texts_of : Short → List ℕ × List ℕ
texts_of short = (digits_of short, short.four)

-- the digits of a number, and its four digits
abbrev pub number_texts : ℕ → List ℕ × List ℕ
number_texts n = (decimal n, four_digits n)

-- the texts of all numbers below a bound
unfoldable pub number_texts_below : ℕ → List (List ℕ × List ℕ)
number_texts_below bound = map number_texts (range_with_len 0 bound)
