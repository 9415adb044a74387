-- The parts of a decimal's text.
use Rattle.std.specs.Prelude.{ℕ, ℤ, pos, List, Option, Some, None, if◌then◌else◌}
use Rattle.mib_model.specs.Decimals.{has_minus, unsigned_part, with_sign}
use Rattle.mib_model.specs.Digits.{are_digits, digits_value}

-- the number of an exponent's text, where it is an optional sign and 1 to 9 digits
abbrev pub exponent_of : List ℕ → Option ℤ
exponent_of text =
    if are_digits 1 9 (unsigned_part text) then Some (with_sign (has_minus text) (digits_value (unsigned_part text))) else None

-- the exponent that stands behind a mark, and 0 without a mark
abbrev pub exponent_behind : Option (List ℕ) → Option ℤ
exponent_behind None = Some (pos 0)
exponent_behind (Some text) = exponent_of text
