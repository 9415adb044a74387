-- Numbers and codes as fields of the tables have them. [This profile, after the SCOS-2000 Database Import ICD.]
use Rattle.std.specs.Prelude.{ℕ, Bool, List, [], ◌∷◌, Option, Some, None, option_map, option_and_then, ◌==◌, ◌&&◌, if◌then◌else◌, ℤ, pos, neg_ℤ, int_le}
use Rattle.std.specs.Char.{is_ascii_uppercase}
use Rattle.std.specs.List.{list_any}
use Rattle.mib_model.specs.Digits.{digits_value, are_digits}

-- the number that 1 to 20 digits without a sign are
abbrev pub magnitude_of : List ℕ → Option ℤ
magnitude_of octets = if are_digits 1 20 octets then Some (pos (digits_value octets)) else None

-- the number that digits are behind a sign, which may be missing: 2B is plus, 2D is minus
abbrev pub signed_of : List ℕ → Option ℤ
signed_of [] = None
signed_of (first ∷ rest) =
    if first == 0x2D then option_map neg_ℤ (magnitude_of rest)
    else if first == 0x2B then magnitude_of rest
    else magnitude_of (first ∷ rest)

-- a number of a range
abbrev pub in_range : ℤ → ℤ → ℤ → Option ℤ
in_range low high number = if int_le low number && int_le number high then Some number else None

-- the number of a range that octets are, if they are one
abbrev pub number_of : ℤ → ℤ → List ℕ → Option ℤ
number_of low high octets = option_and_then (in_range low high) (signed_of octets)

-- the size of a number that is not below zero
abbrev pub size : ℤ → ℕ
size (pos n) = n
size below = 0

-- the letter that octets are, if they are one that passes
abbrev pub letter_by : (ℕ → Bool) → List ℕ → Option ℕ
letter_by passes (letter ∷ []) = if passes letter then Some letter else None
letter_by passes other = None

-- the letter that octets are, if they are one of these
abbrev pub code_of : List ℕ → List ℕ → Option ℕ
code_of letters = letter_by (λ letter. list_any (λ one. one == letter) letters)

-- the capital that octets are, if they are one
abbrev pub capital_of : List ℕ → Option ℕ
capital_of = letter_by is_ascii_uppercase
