-- The texts of raw values. [This profile; the fields of times after ECSS-E-70-41A, absolute time CUC and CDS formats.]
use Rattle.std.specs.Prelude.{ℕ, zero, suc, ◌+◌, ◌*◌, ◌/◌, ◌%◌, List, [], ◌∷◌, ◌++◌, map, codes, decimal, Bool, nat_le, nat_lt, ◌==◌, ◌&&◌, not, if◌then◌else◌}
use Rattle.std.specs.Fmt.{signed_decimal}
use Rattle.std.specs.List.{flat_map, range_with_len}
use Rattle.mib_model.specs.declared.packet.Value.{Value}
use Rattle.mib_model.specs.declared.shape.Sort.{Sort}
use Rattle.mib_model.specs.declared.shape.Sort.TheVariants.{Unsigned, Signed, Real, Octets, Chars, Cds, Cuc, Deduced}
use Rattle.mib_model.specs.Bits.{bits, field_number}

-- a hexadecimal digit, in upper case
abbrev pub hex_digit : ℕ → ℕ
hex_digit n = if nat_lt n 10 then 48 + n else 55 + n

-- a number in so many hexadecimal digits
abbrev pub hex_text : ℕ → ℕ → List ℕ
hex_text zero n = []
hex_text (suc digits) n = hex_text digits (n / 16) ++ hex_digit (n % 16) ∷ []

-- the octet of a quote
abbrev pub quote_mark : ℕ
quote_mark = 34

-- the octet of a backslash
abbrev pub backslash : ℕ
backslash = 92

-- from a space to a tilde, but for the quote and the backslash
abbrev pub stands_as_itself : ℕ → Bool
stands_as_itself octet = nat_le 0x20 octet && nat_le octet 0x7E && not (octet == quote_mark) && not (octet == backslash)

-- an octet in quotes: itself, or its two hexadecimal digits
abbrev pub quoted_octet : ℕ → List ℕ
quoted_octet octet = if stands_as_itself octet then octet ∷ [] else backslash ∷ codes "x" ++ hex_text 2 octet

-- a text in quotes
unfoldable pub quoted : List ℕ → List ℕ
quoted text = quote_mark ∷ flat_map quoted_octet text ++ quote_mark ∷ []

-- so many octets from a bit on
abbrev pub octets_at : List ℕ → ℕ → ℕ → List ℕ
octets_at packet at n = map (λ k. bits packet (at + 8 * k) 8) (range_with_len 0 n)

-- a fine time behind its coarse one, where it has octets
abbrev pub fine_text : List ℕ → ℕ → ℕ → List ℕ
fine_text packet at zero = []
fine_text packet at (suc n) = codes ":" ++ decimal (bits packet at (8 * suc n))

-- days, milliseconds of the day, and with 64 bits microseconds of the millisecond
abbrev pub day_time_text : List ℕ → ℕ → ℕ → List ℕ
day_time_text packet at width =
    decimal (bits packet at 16) ++ codes ":" ++ decimal (bits packet (at + 16) 32) ++
    (if width == 64 then codes ":" ++ decimal (bits packet (at + 48) 16) else [])

-- the raw text of a value by its sort
abbrev pub sort_text : Sort → Value → List ℕ → List ℕ
sort_text Unsigned v packet = signed_decimal v.raw
sort_text Signed v packet = signed_decimal v.raw
sort_text Real v packet = codes "REAL:" ++ hex_text (v.shape.width / 4) (field_number v.shape.order packet v.at v.shape.width)
sort_text Octets v packet = codes "HEX:" ++ flat_map (hex_text 2) (octets_at packet v.at (v.shape.width / 8))
sort_text Chars v packet = quoted (octets_at packet v.at (v.shape.width / 8))
sort_text Cds v packet = codes "TIME:" ++ day_time_text packet v.at v.shape.width
sort_text (Cuc coarse fine) v packet =
    codes "TIME:" ++ decimal (bits packet v.at (8 * coarse)) ++ fine_text packet (v.at + 8 * coarse) fine
sort_text Deduced v packet = []

-- the raw text of a value
unfoldable pub raw_text : Value → List ℕ → List ℕ
raw_text v packet = sort_text v.shape.sort v packet
