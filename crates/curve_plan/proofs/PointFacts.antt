-- Points in order of x.
use Rattle.std.proofs.Common.{Less, Equal, Greater, ◌≡◌, ◌≢◌, ℕ, ◌+◌, ◌<◌, ℤ, ◌<ℤ◌, Bool, true, false, not, cond, ◌&&◌, List, [], ◌∷◌, ◌++◌, Option, Some, None, option_map, filter_map, map, take, length, get_or, int_le, int_lt, refl, sym, ap, ◌∙◌}
use Rattle.std.proofs.lemmas.List.{take_more, map-append}
use Rattle.std.proofs.lemmas.List.Elements.{filter_map-append}
use Rattle.std.proofs.lemmas.List.Sorted.{ranks_by, sorted_far}
use Rattle.std.specs.Cmp.{IsStrictWeakOrder, int_cmp_total}
use Rattle.std.specs.List.{AllByRecursion, cons_option}
use Rattle.std.specs.List.Sorted.{IsSortedByKey, IsStableByKey, ties}
use Rattle.std.specs.Ordering.{int_cmp, is_lt}
use Rattle.dec_num.specs.declared.curve.Point.{Point}
use Rattle.mib_model.specs.Orders.{insert_by, sorted_by}
use Rattle.mib_model.specs.Points.{Knot}
use Rattle.curve_plan.specs.Knots.{knot_at, knots_at, AreApart, Climbs}
use Rattle.curve_plan.proofs.NumberTests.{below-other, gt-test, le-fails, le-test, lt-fails, lt-holds, lt-past}
use Rattle.curve_plan.proofs.OrderFacts.{IsOrderOf, rises-from_far, sorted-is, sorted-map}

-- what is made of one item more
pub collected-more : {X Y Z : Type 0} (f : Y → Z) (h : X → Option Z) (old : List Y) (xs : List X) (i : ℕ) (x : X) (r : Option Y) → i < length xs → x ≡ get_or xs i x → option_map f r ≡ h x → map f old ≡ filter_map h (take i xs) → map f (old ++ cons_option r []) ≡ filter_map h (take (i + 1) xs)
collected-more {X} {Y} {Z} f h old xs i x r below is made so_far =
    let behind : X → List Z = λ y. filter_map h (take i xs) ++ cons_option (h y) [] in
    map-append f old (cons_option r []) ∙ (ap (λ zs. zs ++ map f (cons_option r [])) so_far ∙ (ap (λ zs. filter_map h (take i xs) ++ zs) (one r (h x) made) ∙ sym (
    ap (filter_map h) (take_more xs i x below) ∙ (filter_map-append h (take i xs) (get_or xs i x ∷ []) ∙ ap behind (sym is))))) where
      one : (r : Option Y) (s : Option Z) → option_map f r ≡ s → map f (cons_option r []) ≡ cons_option s []
      one None s e = ap (λ t. cons_option t []) e
      one (Some y) s e = ap (λ t. cons_option t []) e

-- the same, where what is made is kept as it is
pub collected_same : {X Y : Type 0} (h : X → Option Y) (old : List Y) (xs : List X) (i : ℕ) (x : X) (r : Option Y) → i < length xs → x ≡ get_or xs i x → r ≡ h x → old ≡ filter_map h (take i xs) → old ++ cons_option r [] ≡ filter_map h (take (i + 1) xs)
collected_same {X} {Y} h old xs i x r below is made so_far =
    let behind : X → List Y = λ y. filter_map h (take i xs) ++ cons_option (h y) [] in
    ap (λ zs. zs ++ cons_option r []) so_far ∙ (ap (λ s. filter_map h (take i xs) ++ cons_option s []) made ∙ sym (
    ap (filter_map h) (take_more xs i x below) ∙ (filter_map-append h (take i xs) (get_or xs i x ∷ []) ∙ ap behind (sym is))))

-- the order of points by x
abbrev pub lower : Point → Point → Bool
lower p q = is_lt (int_cmp p.x q.x)

abbrev pub at_or_lower : Point → Point → Bool
at_or_lower p q = int_le p.x q.x

abbrev pub first_knot : Knot → Knot → Bool
first_knot p q = int_le p.x q.x

by_x : IsStrictWeakOrder lower
by_x = ranks_by int_cmp_total (λ (p : Point). p.x)

order-of : (a b : ℤ) → int_le a b ≡ not (is_lt (int_cmp b a))
order-of a b = go (int_lt b a) refl (int_lt a b) where
  go : (c : Bool) → int_lt b a ≡ c → (d : Bool) → int_le a b ≡ not (is_lt (cond c Less (cond d Greater Equal)))
  go true e d = gt-test a b (lt-holds b a e)
  go false e true = le-test a b (lt-fails b a e)
  go false e false = le-test a b (lt-fails b a e)

both-false : (a b : Bool) → a ≡ false → b ≡ false → (not a && not b) ≡ true
both-false true b p q = absurd (cc p)
both-false false true p q = absurd (cc q)
both-false false false p q = refl

first-true : (a b : Bool) → a ≡ true → (not a && not b) ≡ false
first-true true b p = refl
first-true false b p = absurd (cc p)

second-true : (a b : Bool) → b ≡ true → (not a && not b) ≡ false
second-true true b p = refl
second-true false true p = refl
second-true false false p = absurd (cc p)

is-by_x : IsOrderOf lower (ties lower) at_or_lower by_x
is-by_x = record {
  below = λ p q h. first-true (lower p q) (lower q p) h;
  above = λ p q h. second-true (lower p q) (lower q p) h;
  alike = λ p q h k. both-false (lower p q) (lower q p) h k;
  first = λ p q. order-of p.x q.x;
}

-- points sorted by x are those in order
pub sorted-points : (xs ys : List Point) → IsSortedByKey (λ (p : Point). p.x) int_cmp ys → IsStableByKey (λ (p : Point). p.x) int_cmp xs ys → knots_at ys ≡ sorted_by first_knot (knots_at xs)
sorted-points xs ys up stable =
    ap knots_at (sorted-is lower (ties lower) at_or_lower by_x is-by_x xs ys (rises-from_far lower (ties lower) at_or_lower by_x ys (sorted_far lower by_x ys up)) stable) ∙
    sorted-map knot_at first_knot xs

-- points that stand apart climb once they are in order
module _ (P : Knot → Type 0) where
  all-insert : (x : Knot) (ys : List Knot) → P x → AllByRecursion P ys → AllByRecursion P (insert_by first_knot x ys)
  all-insert x [] px all = (px, tt)
  all-insert x (y ∷ ys) px all = go (int_le x.x y.x) (all-insert x ys px all.1) where
    go : (b : Bool) → AllByRecursion P (insert_by first_knot x ys) → AllByRecursion P (cond b (x ∷ y ∷ ys) (y ∷ insert_by first_knot x ys))
    go true more = (px, all)
    go false more = (all.0, more)

  all-sorted : (xs : List Knot) → AllByRecursion P xs → AllByRecursion P (sorted_by first_knot xs)
  unfolding sorted_by
  all-sorted [] all = tt
  all-sorted (x ∷ xs) all = all-insert x (sorted_by first_knot xs) all.0 (all-sorted xs all.1)

all-higher : (a b : ℤ) → a <ℤ b → (ps : List Knot) → AllByRecursion (λ q. b <ℤ q.x) ps → AllByRecursion (λ q. a <ℤ q.x) ps
all-higher a b lt [] all = tt
all-higher a b lt (p ∷ ps) all = (lt-past a b p.x lt all.0, all-higher a b lt ps all.1)

insert-climbs : (x : Knot) (ys : List Knot) → AllByRecursion (λ q. q.x ≢ x.x) ys → Climbs ys → Climbs (insert_by first_knot x ys)
insert-climbs x [] other up = (tt, tt)
insert-climbs x (y ∷ ys) other up = go (int_le x.x y.x) refl (insert-climbs x ys other.1 up.1) where
  go : (b : Bool) → int_le x.x y.x ≡ b → Climbs (insert_by first_knot x ys) → Climbs (cond b (x ∷ y ∷ ys) (y ∷ insert_by first_knot x ys))
  go true h more = let lt = below-other x.x y.x h other.0 in ((lt, all-higher x.x y.x lt ys up.0), up)
  go false h more = (all-insert (λ q. y.x <ℤ q.x) x ys (le-fails x.x y.x h) up.0, more)

pub sorted-climbs : (xs : List Knot) → AreApart xs → Climbs (sorted_by first_knot xs)
unfolding sorted_by
sorted-climbs [] apart = tt
sorted-climbs (x ∷ xs) apart =
    insert-climbs x (sorted_by first_knot xs) (all-sorted (λ q. q.x ≢ x.x) xs apart.0) (sorted-climbs xs apart.1)
