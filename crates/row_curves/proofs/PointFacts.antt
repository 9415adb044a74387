-- Points in order of x, and the two that a raw number is taken by.
use Rattle.std.proofs.Common.{Less, Equal, Greater, ◌≡◌, ◌∙◌, ℕ, zero, suc, ◌+◌, ◌-◌, ◌<◌, ◌≤◌, ℤ, ◌<ℤ◌, ◌≤ℤ◌, Bool, true, false, not, cond, List, [], ◌∷◌, ◌++◌, Option, Some, None, drop, filter, filter_map, get_or, int_le, int_lt, length, map, option_map, refl, sym, ap, take, arith}
use Rattle.std.proofs.lemmas.Int.{ints}
use Rattle.std.proofs.lemmas.List.{map-append, take_more}
use Rattle.std.proofs.lemmas.List.Elements.{filter_map-append}
use Rattle.std.proofs.lemmas.List.Sorted.{ranks_by, sorted_far}
use Rattle.std.specs.Cmp.{IsStrictWeakOrder, int_cmp_total}
use Rattle.std.specs.List.{cons_option}
use Rattle.std.specs.List.Sorted.{IsSortedByKey, IsStableByKey}
use Rattle.std.specs.Ordering.{int_cmp, is_lt}
use Rattle.dec_num.specs.declared.curve.Point.{Point}
use Rattle.mib_model.specs.Orders.{insert_by, sorted_by}
use Rattle.mib_model.specs.Points.{Knot, neighbours}
use Rattle.row_curves.specs.Pairs.{taken_of}
use Rattle.row_curves.specs.Views.{knot_at, knots_at}
use Rattle.row_interpreter.proofs.SortFacts.{is-sorted, rises-far}

-- ---- in order of x

abbrev pub lower : Point → Point → Bool
lower p q = is_lt (int_cmp p.x q.x)

abbrev pub at_or_lower : Point → Point → Bool
at_or_lower p q = int_le p.x q.x

abbrev pub first_knot : Knot → Knot → Bool
first_knot p q = int_le p.x q.x

by_x : IsStrictWeakOrder lower
by_x = ranks_by int_cmp_total (λ (p : Point). p.x)

le-test : (a b : ℤ) → a ≤ℤ b → int_le a b ≡ true
le-test a b h = grind (arith, ints)

gt-test : (a b : ℤ) → b <ℤ a → int_le a b ≡ false
gt-test a b h = grind (arith, ints)

lt-holds : (a b : ℤ) → int_lt a b ≡ true → a <ℤ b
lt-holds a b h = grind (arith, ints)

lt-fails : (a b : ℤ) → int_lt a b ≡ false → b ≤ℤ a
lt-fails a b h = grind (arith, ints)

turned : (a b : ℤ) → int_le a b ≡ not (is_lt (int_cmp b a))
turned a b = go (int_lt b a) refl (int_lt a b) where
  go : (c : Bool) → int_lt b a ≡ c → (d : Bool) → int_le a b ≡ not (is_lt (cond c Less (cond d Greater Equal)))
  go true e d = gt-test a b (lt-holds b a e)
  go false e true = le-test a b (lt-fails b a e)
  go false e false = le-test a b (lt-fails b a e)

insert-map : (p : Point) (ps : List Point) → knots_at (insert_by at_or_lower p ps) ≡ insert_by first_knot (knot_at p) (knots_at ps)
insert-map p [] = refl
insert-map p (q ∷ ps) = go (int_le p.x q.x) (insert-map p ps) where
  go : (b : Bool) → knots_at (insert_by at_or_lower p ps) ≡ insert_by first_knot (knot_at p) (knots_at ps)
      → knots_at (cond b (p ∷ q ∷ ps) (q ∷ insert_by at_or_lower p ps)) ≡ cond b (knot_at p ∷ knot_at q ∷ knots_at ps) (knot_at q ∷ insert_by first_knot (knot_at p) (knots_at ps))
  go true more = refl
  go false more = ap (λ (ks : List Knot). knot_at q ∷ ks) more

sorted-map : (ps : List Point) → knots_at (sorted_by at_or_lower ps) ≡ sorted_by first_knot (knots_at ps)
unfolding sorted_by
sorted-map [] = refl
sorted-map (p ∷ ps) = insert-map p (sorted_by at_or_lower ps) ∙ ap (insert_by first_knot (knot_at p)) (sorted-map ps)

-- points sorted by x are those in order
pub sorted-points : (xs ys : List Point) → IsSortedByKey (λ (p : Point). p.x) int_cmp ys → IsStableByKey (λ (p : Point). p.x) int_cmp xs ys → knots_at ys ≡ sorted_by first_knot (knots_at xs)
sorted-points xs ys up stable =
    ap knots_at (is-sorted lower at_or_lower by_x (λ p q. turned p.x q.x) xs ys
    (rises-far lower at_or_lower by_x (λ p q. turned p.x q.x) ys (sorted_far lower by_x ys up)) stable) ∙ sorted-map xs

-- what is made of one item more
pub collected-more : {X Y Z : Type 0} (f : Y → Z) (h : X → Option Z) (old : List Y) (xs : List X) (i : ℕ) (x : X) (r : Option Y) → i < length xs → x ≡ get_or xs i x → option_map f r ≡ h x → map f old ≡ filter_map h (take i xs) → map f (old ++ cons_option r []) ≡ filter_map h (take (i + 1) xs)
collected-more {X} {Y} {Z} f h old xs i x r below is made so_far =
    let behind : X → List Z = λ y. filter_map h (take i xs) ++ cons_option (h y) [] in
    map-append f old (cons_option r []) ∙ (ap (λ zs. zs ++ map f (cons_option r [])) so_far ∙ (ap (λ zs. filter_map h (take i xs) ++ zs) (one r (h x) made) ∙ sym (
    ap (filter_map h) (take_more xs i x below) ∙ (filter_map-append h (take i xs) (get_or xs i x ∷ []) ∙ ap behind (sym is))))) where
      one : (r : Option Y) (s : Option Z) → option_map f r ≡ s → map f (cons_option r []) ≡ cons_option s []
      one None s e = ap (λ t. cons_option t []) e
      one (Some y) s e = ap (λ t. cons_option t []) e

-- ---- the two points of a raw number

-- one pair more that begins at or below the raw number
pub pair-at : (raw : ℤ) (found : Option (Knot × Knot)) (pair : Knot × Knot) (pairs : List (Knot × Knot)) → int_le pair.0.x raw ≡ true
    → taken_of raw (Some pair) pairs ≡ taken_of raw found (pair ∷ pairs)
pair-at raw None pair pairs low = rw low refl
pair-at raw (Some other) pair pairs low = rw low refl

-- the first pair, where it begins above it
pub pair-first : (raw : ℤ) (pair : Knot × Knot) (pairs : List (Knot × Knot)) → int_le pair.0.x raw ≡ false → taken_of raw (Some pair) pairs ≡ taken_of raw None (pair ∷ pairs)
pair-first raw pair pairs high = rw high refl

-- another one that begins above it
pub pair-above : (raw : ℤ) (found pair : Knot × Knot) (pairs : List (Knot × Knot)) → int_le pair.0.x raw ≡ false → taken_of raw (Some found) pairs ≡ taken_of raw (Some found) (pair ∷ pairs)
pair-above raw found pair pairs high = rw high refl

-- the neighbours from a place on
pub neighbours-next : (ks : List Knot) (n : ℕ) (d : Knot) → suc n < length ks → neighbours (drop n ks) ≡ (get_or ks n d, get_or ks (suc n) d) ∷ neighbours (drop (suc n) ks)
neighbours-next [] n d below = absurd (omega (arith, below))
neighbours-next (k ∷ []) n d below = absurd (omega (arith, below))
neighbours-next (k ∷ l ∷ ks) zero d below = refl
neighbours-next (k ∷ l ∷ ks) (suc n) d below = neighbours-next (l ∷ ks) n d (omega (arith, below))

pub neighbours-end : (ks : List Knot) (n : ℕ) → length ks ≤ suc n → neighbours (drop n ks) ≡ []
neighbours-end [] zero past = refl
neighbours-end [] (suc n) past = refl
neighbours-end (k ∷ []) zero past = refl
neighbours-end (k ∷ l ∷ ks) zero past = absurd (omega (arith, past))
neighbours-end (k ∷ ks) (suc n) past = neighbours-end ks n (omega (arith, past))

pub taken-end : (raw : ℤ) (found : Option (Knot × Knot)) → taken_of raw found [] ≡ found
taken-end raw None = refl
taken-end raw (Some pair) = refl

pub knots-long : (ps : List Point) → length (knots_at ps) ≡ length ps
knots-long [] = refl
knots-long (p ∷ ps) = ap suc (knots-long ps)

pub knot-there : (ps : List Point) (n : ℕ) (d : Point) → get_or (knots_at ps) n (knot_at d) ≡ knot_at (get_or ps n d)
knot-there [] n d = refl
knot-there (p ∷ ps) zero d = refl
knot-there (p ∷ ps) (suc n) d = knot-there ps n d
