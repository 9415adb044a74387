-- Points of a curve, and their order. [SCOS-2000 Database Import ICD, cap.]
use Rattle.std.specs.Prelude.{◌≡◌, ◌≢◌, ◌<ℤ◌, List, [], ◌∷◌, Option, map, filter_map, false, IfSome}
use Rattle.std.specs.List.{AllByRecursion}
use Rattle.dec_num.specs.declared.curve.Point.{Point}
use Rattle.curve_plan.specs.declared.fast.slope.Slope.{Slope}
use Rattle.curve_plan.specs.Slopes.{IsSlope}
use Rattle.mib_model.specs.declared.plan.CurveRows.{CurveRows}
use Rattle.mib_model.specs.declared.plan.CurveRows.TheVariants.{Points}
use Rattle.mib_model.specs.Curves.{is_real_format}
use Rattle.mib_model.specs.Points.{Knot, knot_of}

-- a point as mib_model defines it
abbrev pub knot_at : Point → Knot
knot_at p = record { x = p.x; y = p.y.count }

-- points, each as mib_model defines it
abbrev pub knots_at : List Point → List Knot
knots_at = map knot_at

-- each point stands at a greater x than those before it
abbrev pub Climbs : List Knot → Type 0
Climbs [] = Unit {0}
Climbs (p ∷ ps) = AllByRecursion (λ q. p.x <ℤ q.x) ps × Climbs ps

-- no two points stand at one x
abbrev pub AreApart : List Knot → Type 0
AreApart [] = Unit {0}
AreApart (p ∷ ps) = AllByRecursion (λ q. q.x ≢ p.x) ps × AreApart ps

-- a curve of which no two points stand at one x, where points are taken: so it is in sound tables
abbrev pub HasPointsApart : CurveRows → Type 0
HasPointsApart (Points caf caps) = is_real_format caf.rawfmt ≡ false → AreApart (filter_map (knot_of caf.radix) caps)
HasPointsApart rows = Unit {0}

-- slopes that are there are those of the lines from each point to the next
abbrev pub AreSlopes : List Knot → List (Option Slope) → Type 0
AreSlopes points [] = Unit {0}
AreSlopes [] (slope ∷ slopes) = ⊥
AreSlopes (p ∷ []) (slope ∷ slopes) = ⊥
AreSlopes (p ∷ q ∷ points) (slope ∷ slopes) = IfSome slope (IsSlope p q) × AreSlopes (q ∷ points) slopes
