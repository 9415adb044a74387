-- Sums over a list of views, one or two of which are known by their places.
use Rattle.std.proofs.Common.{◌≡◌, ◌≢◌, ℕ, zero, suc, ◌+◌, ◌≤◌, List, [], ◌∷◌, set, sym, ap, arith}
use Rattle.std.specs.List.{sum_by}
use Rattle.std.proofs.lemmas.List.Sums.{sum_by-cons}
use mathlib.Core.Option.{some, some-ne-none, some-injective}
use lib.ListN.{get_elem?}

module _ {V : Type 0} (f : V → ℕ) where
  pub sum_by-set_at : (views : List V) (i : ℕ) (v w : V) → get_elem? views i ≡ some v → sum_by f (set views i w) + f v ≡ sum_by f views + f w
  sum_by-set_at [] i v w at = absurd (some-ne-none v (sym at))
  sum_by-set_at (u ∷ us) zero v w at = let e = ap f (some-injective u v at) in omega (arith, sum_by-cons f u us, sum_by-cons f w us)
  sum_by-set_at (u ∷ us) (suc i) v w at = omega (arith, sum_by-cons f u us, sum_by-cons f u (set us i w), sum_by-set_at us i v w at)

  pub one-le-sum_by : (views : List V) (i : ℕ) (v : V) → get_elem? views i ≡ some v → f v ≤ sum_by f views
  one-le-sum_by [] i v at = absurd (some-ne-none v (sym at))
  one-le-sum_by (u ∷ us) zero v at = let e = ap f (some-injective u v at) in omega (arith, sum_by-cons f u us)
  one-le-sum_by (u ∷ us) (suc i) v at = omega (arith, sum_by-cons f u us, one-le-sum_by us i v at)

  pub two-le-sum_by : (views : List V) (i j : ℕ) (u v : V) → get_elem? views i ≡ some u → get_elem? views j ≡ some v → i ≢ j → f u + f v ≤ sum_by f views
  two-le-sum_by [] i j u v at at' n = absurd (some-ne-none u (sym at))
  two-le-sum_by (x ∷ xs) zero zero u v at at' n = absurd (n (omega arith))
  two-le-sum_by (x ∷ xs) zero (suc j) u v at at' n = let e = ap f (some-injective x u at) in omega (arith, sum_by-cons f x xs, one-le-sum_by xs j v at')
  two-le-sum_by (x ∷ xs) (suc i) zero u v at at' n = let e = ap f (some-injective x v at') in omega (arith, sum_by-cons f x xs, one-le-sum_by xs i u at)
  two-le-sum_by (x ∷ xs) (suc i) (suc j) u v at at' n = omega (arith, sum_by-cons f x xs, two-le-sum_by xs i j u v at at' (λ e. n (ap suc e)))

pub sum_by-le_at : {V : Type 0} (f g : V → ℕ) (views : List V) → ((i : ℕ) (v : V) → get_elem? views i ≡ some v → f v ≤ g v) → sum_by f views ≤ sum_by g views
sum_by-le_at f g [] each = omega arith
sum_by-le_at f g (u ∷ us) each = let a = each zero u (λ _. some u) in omega (arith, sum_by-cons f u us, sum_by-cons g u us, sum_by-le_at f g us (λ i v at. each (suc i) v at))
