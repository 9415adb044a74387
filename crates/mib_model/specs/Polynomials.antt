-- Polynomial curves, summed at one scale. [SCOS-2000 Database Import ICD, mcf; scale, rounding and bounds are this profile's.]
use Rattle.std.specs.Prelude.{ℕ, zero, suc, ◌+◌, ◌-◌, max, ℤ, pos, negsuc, ◌+ℤ◌, ◌-ℤ◌, ◌*ℤ◌, nat_abs, Bool, List, [], ◌∷◌, map, length, take, ◌||◌, ◌==◌, fold, Result}
use Rattle.std.specs.List.{list_any, suffix_len, scan, zip}
use Rattle.mib_model.specs.declared.number.Dec.{Dec}
use Rattle.mib_model.specs.declared.number.Over.{Over}
use Rattle.mib_model.specs.declared.rows.McfRow.{McfRow}
use Rattle.mib_model.specs.Calibrated.{is_wide, bounded}
use Rattle.mib_model.specs.Counts.{times_power}

-- the five coefficients, that of the power 0 first
abbrev pub coefficients : McfRow → List Dec
coefficients row = row.pol1 ∷ row.pol2 ∷ row.pol3 ∷ row.pol4 ∷ row.pol5 ∷ []

-- the digits that a coefficient has behind the point
abbrev pub behind_point : ℤ → ℕ
behind_point (pos e) = 0
behind_point (negsuc e) = e + 1

-- the scale of coefficients: the most digits behind the point
abbrev pub scale_of : List Dec → ℕ
scale_of decs = fold (λ scale d. max scale (behind_point d.e)) 0 decs

-- the coefficients as whole numbers at a scale
abbrev pub at_scale : ℕ → List Dec → List ℤ
at_scale scale decs = map (λ d. times_power d.m (d.e +ℤ pos scale)) decs

-- the number 0
abbrev pub is_zero : ℤ → Bool
is_zero z = nat_abs z == 0

-- those up to the degree: without the zeros at the end, but one at least
abbrev pub up_to_degree : List ℤ → List ℤ
up_to_degree cs = take (max 1 (length cs - suffix_len is_zero cs)) cs

-- so many powers of a number, from p on
abbrev pub powers_from : ℤ → ℤ → ℕ → List ℤ
powers_from raw p zero = []
powers_from raw p (suc n) = p ∷ powers_from raw (p *ℤ raw) n

-- so many powers of a number, from the power 0 on
abbrev pub powers : ℤ → ℕ → List ℤ
powers raw n = powers_from raw (pos 1) n

-- each coefficient times its power
abbrev pub terms : ℤ → List ℤ → List ℤ
terms raw cs = map (λ pair. pair.0 *ℤ pair.1) (zip cs (powers raw (length cs)))

-- the sums of the first term, of the first two, and so on
abbrev pub sums : List ℤ → List ℤ
sums ts = scan (λ sum t. sum +ℤ t) (λ sum t. sum +ℤ t) (pos 0) ts

-- the last sum
abbrev pub total : List ℤ → ℤ
total ts = fold (λ sum t. sum +ℤ t) (pos 0) ts

-- a sum at a scale, brought to counts of 10^-12
abbrev pub to_count : ℕ → ℤ → ℤ
to_count scale sum = times_power sum (pos 12 -ℤ pos scale)

-- whether a coefficient, a power, a term or a sum up to the degree is too wide
abbrev pub has_wide_step : ℤ → List ℤ → Bool
has_wide_step raw cs =
    list_any is_wide cs || list_any is_wide (powers raw (length cs)) || list_any is_wide (terms raw cs) ||
    list_any is_wide (sums (terms raw cs))

-- the polynomial of coefficients that stand for whole numbers at a scale
abbrev pub summed : ℕ → ℤ → List ℤ → Result ℤ Over
summed scale raw cs = bounded (has_wide_step raw cs) (to_count scale (total (terms raw cs)))

-- A0 + A1·x + A2·x^2 + A3·x^3 + A4·x^4 at a raw number
unfoldable pub polynomial : List Dec → ℤ → Result ℤ Over
polynomial decs raw = summed (scale_of decs) raw (up_to_degree (at_scale (scale_of decs) decs))
