-- Decimals, counts, whole numbers, encodings and bits. [This profile.]
use Rattle.std.specs.Prelude.{◌≡◌, ℕ, ◌-◌, ◌^◌, [], ◌∷◌, codes, Ok, Err, Some, None, pos, negsuc, neg_ℤ, false}
use Rattle.mib_model.specs.declared.number.DecFault.TheVariants.{Form, Digits, Exponent}
use Rattle.mib_model.specs.declared.shape.Endian.TheVariants as endian
use Rattle.mib_model.specs.declared.shape.Order.TheVariants.{Big, Little}
use Rattle.mib_model.specs.declared.shape.Sort.TheVariants.{Unsigned, Signed, Cuc}
use Rattle.mib_model.specs.Bits.{bits, little_bits, signed_number, is_inside}
use Rattle.mib_model.specs.Decimals.{dec_of}
use Rattle.mib_model.specs.Counts.{half, count_of, count_text}
use Rattle.mib_model.specs.Encodings.{encoding_of, IsEncoding}
use Rattle.mib_model.specs.Orders.{sorted_by_number}
use Rattle.mib_model.specs.WholeNumbers.{whole_number}

-- texts read as decimals
pub record DecimalExamples : Type 0 where
  pub exponent : dec_of (codes "1.500000E+01") ≡ Ok (record { m = pos 15; e = pos 0 })
  pub point_first : dec_of (codes ".5") ≡ Ok (record { m = pos 5; e = negsuc 0 })
  pub zero : dec_of (codes "-0.0") ≡ Ok (record { m = pos 0; e = pos 0 })
  pub trailing_zeros : dec_of (codes "100") ≡ Ok (record { m = pos 1; e = pos 2 })
  pub zero_before_exponent : dec_of (codes "0E999999999") ≡ Ok (record { m = pos 0; e = pos 0 })
  pub raised : dec_of (codes "0.1E31") ≡ Ok (record { m = pos 1; e = pos 30 })
  pub empty : dec_of [] ≡ Err Form
  pub no_exponent : dec_of (codes "1e") ≡ Err Form
  pub point_alone : dec_of (codes ".") ≡ Err Form
  pub space : dec_of (codes " 5") ≡ Err Form
  pub digits : dec_of (codes "123456789012345678") ≡ Err Digits
  pub large : dec_of (codes "1E31") ≡ Err Exponent
  pub raised_too_far : dec_of (codes "100E29") ≡ Err Exponent

-- counts, their rounding and their texts
pub record CountExamples : Type 0 where
  pub tie : half (pos 1) 2 ≡ pos 1
  pub tie_below_zero : half (neg_ℤ (pos 1)) 2 ≡ neg_ℤ (pos 1)
  pub third : half (pos 1) 3 ≡ pos 0
  pub one : count_of (record { m = pos 1; e = pos 0 }) ≡ pos (10 ^ 12)
  pub held : count_of (record { m = negsuc 8; e = pos 30 }) ≡ neg_ℤ (pos (10 ^ 37))
  pub two_decimals : count_text (pos 333333333333) 2 ≡ codes "0.33"
  pub no_minus : count_text (neg_ℤ (pos 1)) 2 ≡ codes "0.00"
  pub whole : count_text (pos 4100000000000) 0 ≡ codes "4"
  pub twelve_at_most : count_text (neg_ℤ (pos 1)) 200 ≡ codes "-0.000000000001"

-- texts of curves read as whole numbers
pub record WholeNumberExamples : Type 0 where
  pub decimal : whole_number 68 (codes " 1E3 ") ≡ Some (pos 1000)
  pub fraction : whole_number 68 (codes "0.5") ≡ None
  pub hexadecimal : whole_number 72 (codes "fF") ≡ Some (pos 255)
  pub signed_hexadecimal : whole_number 72 (codes "-1") ≡ None
  pub octal : whole_number 79 (codes "1777777777777777777777") ≡ Some (pos (2 ^ 64 - 1))
  pub large_octal : whole_number 79 (codes "2000000000000000000000") ≡ None

-- types and what their bits are
pub record EncodingExamples : Type 0 where
  pub sixteen_bits : encoding_of 3 12 endian.B ≡ Some (record { sort = Unsigned; width = 16; order = Big })
  pub little : encoding_of 4 12 endian.L ≡ Some (record { sort = Signed; width = 16; order = Little })
  pub odd_little : encoding_of 3 0 endian.L ≡ None
  pub time : encoding_of 10 4 endian.L ≡ Some (record { sort = Cuc 1 1; width = 16; order = Big })
  pub outside : encoding_of 3 17 endian.B ≡ None
  pub no_segmented_time : encoding_of 10 2 endian.B ≡ None
  pub is_one : IsEncoding (record { sort = Unsigned; width = 16; order = Little })

-- bits, numbers in them, and order
pub record BitExamples : Type 0 where
  pub unaligned : bits (0x12 ∷ 0x34 ∷ 0x56 ∷ []) 4 12 ≡ 0x234
  pub little_octets : little_bits (0x07 ∷ 0xD0 ∷ []) 0 2 ≡ 53255
  pub minus_one : signed_number 4 15 ≡ negsuc 0
  pub greatest : signed_number 4 7 ≡ pos 7
  pub past_the_end : is_inside (0 ∷ 0 ∷ []) 9 8 ≡ false
  pub in_order : sorted_by_number (λ (n : ℕ). n) (3 ∷ 1 ∷ 2 ∷ []) ≡ 1 ∷ 2 ∷ 3 ∷ []
