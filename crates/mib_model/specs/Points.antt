-- Curves by points: the value between two neighbours. [SCOS-2000 Database Import ICD, caf and cap; rounding and bounds are this profile's.]
use Rattle.std.specs.Prelude.{ℕ, ℤ, ◌+ℤ◌, ◌-ℤ◌, ◌*ℤ◌, nat_abs, int_le, int_lt, Bool, List, [], ◌∷◌, Option, Some, None, option_map, ◌==◌, ◌&&◌, ◌||◌, not, if◌then◌else◌, filter, Result}
use Rattle.std.specs.List.{filter_map, last_or}
use Rattle.mib_model.specs.declared.rows.CafRow.{CafRow}
use Rattle.mib_model.specs.declared.rows.CapRow.{CapRow}
use Rattle.mib_model.specs.declared.number.Over.{Over}
use Rattle.mib_model.specs.Calibrated.{Calibrated, Outside, calibrated, is_wide, bounded}
use Rattle.mib_model.specs.Counts.{count_of, half}
use Rattle.mib_model.specs.Letters.{letter}
use Rattle.mib_model.specs.Orders.{sorted_by}
use Rattle.mib_model.specs.WholeNumbers.{whole_number}

-- a point: a raw number, and a count of 10^-12
pub record Knot : Type 0 where
  pub x : ℤ
  pub y : ℤ

-- the point of a row, where its x is a whole number
abbrev pub knot_of : ℕ → CapRow → Option Knot
knot_of radix row = option_map (λ x. record { x = x; y = count_of row.yvals }) (whole_number radix row.xvals)

-- the points of a curve in order of x
unfoldable pub knots : CafRow → List CapRow → List Knot
knots caf caps = sorted_by (λ p q. int_le p.x q.x) (filter_map (knot_of caf.radix) caps)

-- each point but the last, beside the next
abbrev pub neighbours : List Knot → List (Knot × Knot)
neighbours [] = []
neighbours (p ∷ []) = []
neighbours (p ∷ q ∷ more) = (p, q) ∷ neighbours (q ∷ more)

-- the first item, if there is one
abbrev pub first_of : {A : Type 0} → List A → Option A
first_of [] = None
first_of (x ∷ xs) = Some x

-- the two points that a raw number is taken by: the last pair that begins at or below it, and else the first pair
abbrev pub pair_for : ℤ → List (Knot × Knot) → Option (Knot × Knot)
pair_for raw pairs = last_or (first_of pairs) (filter (λ pair. int_le pair.0.x raw) pairs)

-- whether a raw number lies outside two points
abbrev pub is_beyond : ℤ → Knot × Knot → Bool
is_beyond raw pair = int_lt raw pair.0.x || int_lt pair.1.x raw

-- how far a raw number lies from the first of two points, times the rise between them
abbrev pub product_of : Knot → Knot → ℤ → ℤ
product_of p q raw = (raw -ℤ p.x) *ℤ (q.y -ℤ p.y)

-- the value of a raw number on the line through two points, or that it leaves the bounds
unfoldable pub interpolated : Knot → Knot → ℤ → Result ℤ Over
interpolated p q raw =
    bounded (is_wide (q.y -ℤ p.y) || is_wide (product_of p q raw)) (p.y +ℤ half (product_of p q raw) (nat_abs (q.x -ℤ p.x)))

-- whether a curve goes on beyond its points in its outer lines: INTER `P`
abbrev pub goes_on : ℕ → Bool
goes_on inter = inter == letter "P"

-- what two points make of a raw number
abbrev pub on_pair : ℕ → ℤ → Option (Knot × Knot) → Calibrated
on_pair inter raw None = Outside
on_pair inter raw (Some pair) =
    if is_beyond raw pair && not (goes_on inter) then Outside else calibrated (interpolated pair.0 pair.1 raw)

-- what a curve by points makes of a raw number
unfoldable pub by_points : CafRow → List CapRow → ℤ → Calibrated
by_points caf caps raw = on_pair caf.inter raw (pair_for raw (neighbours (knots caf caps)))
