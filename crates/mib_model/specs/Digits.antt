-- Numbers as digits spell them.
use Rattle.std.specs.Prelude.{ℕ, ◌+◌, ◌*◌, ◌-◌, Bool, List, length, replicate, ◌++◌, fold, nat_le, nat_lt, ◌^◌, ◌&&◌, decimal, Option, Some, None, if◌then◌else◌}
use Rattle.std.specs.Char.{is_ascii_digit}
use Rattle.std.specs.List.{list_all}

-- the number that decimal digits spell, the most significant first
abbrev pub digits_value : List ℕ → ℕ
digits_value digits = fold (λ value digit. 10 * value + (digit - 48)) 0 digits

-- whether a text is from so many to so many decimal digits, and nothing else
abbrev pub are_digits : ℕ → ℕ → List ℕ → Bool
are_digits least most text = nat_le least (length text) && nat_le (length text) most && list_all is_ascii_digit text

-- the number that 1 to 20 digits spell, where it is below 2^64
abbrev pub natural_in : List ℕ → Option ℕ
natural_in word = if are_digits 1 20 word && nat_lt (digits_value word) (2 ^ 64) then Some (digits_value word) else None

-- a number in so many decimal digits, with zeros in front
abbrev pub decimal_of_width : ℕ → ℕ → List ℕ
decimal_of_width width n = replicate (width - length (decimal n)) 48 ++ decimal n
