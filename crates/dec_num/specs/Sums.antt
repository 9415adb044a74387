-- The sum of a polynomial, one coefficient after another. [This profile.]
use Rattle.std.specs.Prelude.{◌≡◌, ◌<◌, ℕ, ℤ, pos, ◌+ℤ◌, ◌*ℤ◌, nat_abs, true, false, List, [], ◌∷◌, take, length, ◌-◌, Option, Some, None, option_map, option_and_then, IfSome, IfNone, OnSome}
use Rattle.std.specs.List.{list_any, suffix_len}
use Rattle.mib_model.specs.Calibrated.{is_wide}
use Rattle.mib_model.specs.declared.limits.TheConstants.{STEP_BOUND}
use Rattle.mib_model.specs.declared.number.Dec.{Dec}
use Rattle.mib_model.specs.Polynomials.{at_scale, is_zero}
use Rattle.dec_num.specs.Narrow.{narrow}

-- coefficients as whole numbers at a scale, that of the power 0 apart, where none is too wide
pub record AreScaled (decs : List Dec) (scale : ℕ) (scaled : Option (ℤ × List ℤ)) : Type 0 where
  pub none : IfNone scaled (list_any is_wide (at_scale scale decs) ≡ true)
  pub some : IfSome scaled (λ c. c.0 ∷ c.1 ≡ at_scale scale decs)
  pub within : IfSome scaled (λ c. nat_abs c.0 < STEP_BOUND)
  pub narrow : OnSome scaled (list_any is_wide (at_scale scale decs) ≡ false)

-- coefficients without the zeros at the end
abbrev pub without_zeros : List ℤ → List ℤ
without_zeros cs = take (length cs - suffix_len is_zero cs) cs

-- the next power and the sum with a coefficient's term, where no step is too wide
abbrev pub advanced : ℤ → ℤ → ℤ → ℤ → Option (ℤ × ℤ)
advanced raw power sum c =
    option_and_then (λ next. option_and_then (λ term. option_map (λ more. (next, more)) (narrow (sum +ℤ term))) (narrow (c *ℤ next))) (narrow (power *ℤ raw))

-- a sum with the terms of coefficients of the next powers
abbrev pub sum_behind : ℤ → ℤ → ℤ → List ℤ → Option ℤ
sum_behind raw power sum [] = Some sum
sum_behind raw power sum (c ∷ cs) = option_and_then (λ (next, more). sum_behind raw next more cs) (advanced raw power sum c)

-- the sum of coefficients at a number, where they are there and no step is too wide
abbrev pub sum_of : Option (ℤ × List ℤ) → ℤ → Option ℤ
sum_of None raw = None
sum_of (Some c) raw = sum_behind raw (pos 1) c.0 (without_zeros c.1)
