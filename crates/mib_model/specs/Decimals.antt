-- Scaled decimals, and the texts that are one. [This profile.]
use Rattle.std.specs.Prelude.{ℕ, ◌-◌, ℤ, pos, negsuc, ◌+ℤ◌, ◌-ℤ◌, neg_ℤ, int_lt, Bool, List, [], ◌∷◌, ◌++◌, length, take, drop, nat_le, nat_lt, ◌==◌, ◌&&◌, ◌||◌, not, if◌then◌else◌, Result, Ok, Err}
use Rattle.std.specs.List.{list_any, list_all, before_first, after_first, prefix_len, suffix_len}
use Rattle.std.specs.Char.{is_ascii_digit}
use Rattle.mib_model.specs.declared.number.Dec.{Dec}
use Rattle.mib_model.specs.declared.number.DecFault.{DecFault}
use Rattle.mib_model.specs.declared.number.DecFault.TheVariants.{Form, Digits, Exponent}
use Rattle.mib_model.specs.Digits.{digits_value, are_digits}
use Rattle.mib_model.specs.Letters.{letter}

-- a minus sign
abbrev pub is_minus : ℕ → Bool
is_minus octet = octet == letter "-"

-- a minus or a plus sign
abbrev pub is_sign : ℕ → Bool
is_sign octet = is_minus octet || (octet == letter "+")

-- a decimal point
abbrev pub is_point : ℕ → Bool
is_point octet = octet == letter "."

-- `E` or `e`
abbrev pub is_exponent_mark : ℕ → Bool
is_exponent_mark octet = (octet == letter "E") || (octet == letter "e")

-- the digit 0
abbrev pub is_zero_digit : ℕ → Bool
is_zero_digit octet = octet == letter "0"

-- a text without the sign at its front, where there is one
abbrev pub unsigned_part : List ℕ → List ℕ
unsigned_part text = drop (prefix_len is_sign (take 1 text)) text

-- whether the sign at the front is a minus
abbrev pub has_minus : List ℕ → Bool
has_minus text = list_any is_minus (take 1 text)

-- a number by its sign and its magnitude
abbrev pub with_sign : Bool → ℕ → ℤ
with_sign minus n = if minus then neg_ℤ (pos n) else pos n

-- what stands before the exponent's mark
abbrev pub mantissa : List ℕ → List ℕ
mantissa text = before_first is_exponent_mark (unsigned_part text)

-- what stands behind the exponent's mark
abbrev pub exponent_part : List ℕ → List ℕ
exponent_part text = after_first is_exponent_mark (unsigned_part text)

-- the digits before the point
abbrev pub whole_digits : List ℕ → List ℕ
whole_digits text = before_first is_point (mantissa text)

-- the digits after the point
abbrev pub fraction_digits : List ℕ → List ℕ
fraction_digits text = after_first is_point (mantissa text)

-- whether the exponent is well formed: an optional sign and 1 to 9 digits behind the mark, or no mark at all
abbrev pub has_exponent_form : List ℕ → Bool
has_exponent_form text = not (list_any is_exponent_mark text) || are_digits 1 9 (unsigned_part (exponent_part text))

-- the exponent that a text gives
abbrev pub exponent_value : List ℕ → ℤ
exponent_value text = with_sign (has_minus (exponent_part text)) (digits_value (unsigned_part (exponent_part text)))

-- an optional sign, digits with at most one point, at least one digit, and an optional exponent
abbrev pub has_decimal_form : List ℕ → Bool
has_decimal_form text =
    nat_le 1 (length (whole_digits text ++ fraction_digits text)) &&
    list_all is_ascii_digit (whole_digits text ++ fraction_digits text) && has_exponent_form text

-- digits without the zeros at the front
abbrev pub without_leading : List ℕ → List ℕ
without_leading digits = drop (prefix_len is_zero_digit digits) digits

-- digits without the zeros at the end
abbrev pub without_trailing : List ℕ → List ℕ
without_trailing digits = take (length digits - suffix_len is_zero_digit digits) digits

-- the decimal of significant digits, the last of which has this exponent: at most 17 digits, an exponent from -30 to 30
abbrev pub scaled : Bool → List ℕ → ℤ → Result Dec DecFault
scaled minus digits exponent =
    if nat_lt 17 (length digits) then Err Digits
    else if int_lt exponent (negsuc 29) || int_lt (pos 30) exponent then Err Exponent
    else Ok (record { m = with_sign minus (digits_value digits); e = exponent })

-- the decimal of digits that may end in zeros; no digit is the number 0
abbrev pub scaled_from : Bool → List ℕ → ℤ → Result Dec DecFault
scaled_from minus [] exponent = Ok (record { m = pos 0; e = pos 0 })
scaled_from minus (d ∷ ds) exponent =
    scaled minus (without_trailing (d ∷ ds)) (exponent +ℤ pos (suffix_len is_zero_digit (d ∷ ds)))

-- the decimal that a text is, or the first of the three faults
unfoldable pub dec_of : List ℕ → Result Dec DecFault
dec_of text =
    if not (has_decimal_form text) then Err Form
    else scaled_from (has_minus text) (without_leading (whole_digits text ++ fraction_digits text))
    (exponent_value text -ℤ pos (length (fraction_digits text)))
