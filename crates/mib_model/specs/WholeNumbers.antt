-- Whole numbers that texts of a curve stand for. [SCOS-2000 Database Import ICD, caf, radix; the forms are this profile's.]
use Rattle.std.specs.Prelude.{ℕ, ◌+◌, ◌-◌, ◌*◌, ◌^◌, ℤ, pos, negsuc, ◌*ℤ◌, int_le, Bool, false, List, length, Option, Some, None, nat_le, nat_lt, ◌==◌, ◌&&◌, ◌||◌, if◌then◌else◌, fold, Result, Ok, Err}
use Rattle.std.specs.Char.{is_ascii_digit}
use Rattle.std.specs.List.{list_all}
use Rattle.mib_model.specs.declared.number.Dec.{Dec}
use Rattle.mib_model.specs.declared.number.DecFault.{DecFault}
use Rattle.mib_model.specs.Decimals.{dec_of}
use Rattle.mib_model.specs.Letters.{letter}
use Rattle.mib_model.specs.Lines.{trimmed}
use Rattle.mib_model.specs.declared.limits.TheConstants.{RAW_LEAST, RAW_MOST}

-- the least raw number: -2^63
abbrev pub least_raw : ℤ
least_raw = RAW_LEAST

-- the greatest raw number: 2^64 - 1
abbrev pub greatest_raw : ℤ
greatest_raw = RAW_MOST

-- a number, where it is a raw number
abbrev pub if_raw : ℤ → Option ℤ
if_raw z = if int_le least_raw z && int_le z greatest_raw then Some z else None

-- the whole number that a decimal is: it ends in no zeros, so it is whole where its exponent isn't below 0
abbrev pub whole_of : ℤ → ℤ → Option ℤ
whole_of m (pos e) = if_raw (m *ℤ pos (10 ^ e))
whole_of m (negsuc e) = None

-- the whole number of a text that reads as a decimal
abbrev pub whole_in : Result Dec DecFault → Option ℤ
whole_in (Err fault) = None
whole_in (Ok d) = whole_of d.m d.e

-- the whole number that a text is in radix `D`
unfoldable pub decimal_whole : List ℕ → Option ℤ
decimal_whole text = whole_in (dec_of (trimmed text))

-- one of the six letters from this one on
abbrev pub is_hex_letter : ℕ → ℕ → Bool
is_hex_letter first octet = nat_le first octet && nat_lt octet (first + 6)

-- a digit of radix `H`, with letters of either case
abbrev pub is_hex_digit : ℕ → Bool
is_hex_digit octet = is_ascii_digit octet || is_hex_letter (letter "A") octet || is_hex_letter (letter "a") octet

-- what a digit of radix `H` stands for
abbrev pub hex_digit_value : ℕ → ℕ
hex_digit_value octet = if nat_le 97 octet then octet - 87 else if nat_le 65 octet then octet - 55 else octet - 48

-- the number that digits of radix `H` spell
abbrev pub hex_value : List ℕ → ℕ
hex_value digits = fold (λ value digit. 16 * value + hex_digit_value digit) 0 digits

-- a digit of radix `O`
abbrev pub is_octal_digit : ℕ → Bool
is_octal_digit octet = nat_le 48 octet && nat_le octet 55

-- the number that digits of radix `O` spell
abbrev pub octal_value : List ℕ → ℕ
octal_value digits = fold (λ value digit. 8 * value + (digit - 48)) 0 digits

-- from one to so many digits of a kind
abbrev pub are_all : (ℕ → Bool) → ℕ → List ℕ → Bool
are_all is_digit most text = nat_le 1 (length text) && nat_le (length text) most && list_all is_digit text

-- 1 to 16 hexadecimal digits
abbrev pub hex_whole : List ℕ → Option ℤ
hex_whole text = if are_all is_hex_digit 16 text then Some (pos (hex_value text)) else None

-- 1 to 22 octal digits with a value below 2^64
abbrev pub octal_whole : List ℕ → Option ℤ
octal_whole text = if are_all is_octal_digit 22 text && nat_lt (octal_value text) (2 ^ 64) then Some (pos (octal_value text)) else None

-- the whole number of a text in a radix: `D`, `H` or `O`
unfoldable pub whole_number : ℕ → List ℕ → Option ℤ
whole_number radix text =
    if radix == letter "H" then hex_whole (trimmed text)
    else if radix == letter "O" then octal_whole (trimmed text)
    else decimal_whole text

-- whether a number lies from one bound to another, where both are there
abbrev pub lies_from_to : Option ℤ → Option ℤ → ℤ → Bool
lies_from_to None high z = false
lies_from_to (Some low) None z = false
lies_from_to (Some low) (Some high) z = int_le low z && int_le z high
