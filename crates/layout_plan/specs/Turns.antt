-- The occurrences of a row of plf, compiled. [SCOS-2000 Database Import ICD, plf.]
use Rattle.std.specs.Prelude.{◌≡◌, ◌≤◌, ℕ, ◌+◌, Bool, true, false, List, ◌==◌, if◌then◌else◌}
use Rattle.mib_model.specs.declared.shape.Order.{Order}
use Rattle.mib_model.specs.declared.shape.Order.TheVariants.{Big, Little}
use Rattle.mib_model.specs.Encodings.{Encoding}
use Rattle.bit_field.specs.Numbers.{has_number}

-- the occurrences of a row: the first bit of the first, the bits from one to the next, and how many there are
pub record Turns : Type 0 where
  pub name : List ℕ
  pub first : ℕ
  pub step : ℕ
  pub count : ℕ
  pub shape : Encoding

-- how many there are, by the number that is kept of them
abbrev pub turns : ℕ → ℕ
turns kept = if kept == 0 then 1 else kept

-- whether an order is that of the most significant octet first
abbrev pub is_big : Order → Bool
is_big Big = true
is_big Little = false

-- whether values of a shape have no number or one of the order Big
abbrev pub is_big_or_none : Encoding → Bool
is_big_or_none shape = if has_number shape.sort then is_big shape.order else true

-- a value that lies in eight octets, behind so many bits of them, and has no number or one of the order Big
pub record IsInEight (bit : ℕ) (shape : Encoding) : Type 0 where
  pub order : has_number shape.sort ≡ true → shape.order ≡ Big
  pub end : bit + shape.width ≤ 64
