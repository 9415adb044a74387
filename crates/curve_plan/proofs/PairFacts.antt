-- The two points that a raw number is taken by, of points that climb.
use Rattle.std.proofs.Common.{◌≡◌, ℕ, zero, suc, ◌+◌, ◌-◌, ◌<◌, ◌≤◌, min, ℤ, pos, ◌+ℤ◌, ◌<ℤ◌, ◌≤ℤ◌, sym, Bool, true, false, List, [], ◌∷◌, ◌++◌, Option, Some, None, IfSome, nat_lt, filter, length, get_or, int_le, refl, ap, add-one, ◌∙◌, arith}
use Rattle.std.specs.List.{AllByRecursion, last_or}
use Rattle.std.specs.List.Sorted.{IsPartitionPoint, IsPartitionedBy}
use Rattle.dec_num.specs.declared.curve.Point.{Point}
use Rattle.mib_model.specs.Points.{Knot, neighbours, pair_for}
use Rattle.curve_plan.specs.declared.fast.slope.Slope.{Slope}
use Rattle.mib_model.specs.Calibrated.{Counted}
use Rattle.mib_model.specs.Points.{on_pair}
use Rattle.curve_plan.specs.Slopes.{IsLine, IsOnLine, IsSlope}
use Rattle.curve_plan.proofs.SlopeFacts.{on-line}
use Rattle.std.proofs.lemmas.Bool.Decides.{nat_tests}
use Rattle.std.proofs.lemmas.Int.{ints}
use Rattle.std.proofs.lemmas.List.{get_or_default}
use Rattle.curve_plan.specs.Knots.{knot_at, knots_at, Climbs, AreSlopes}
use Rattle.curve_plan.proofs.NumberTests.{gt-test, le-fails, le-holds, le-past, le-test, lt-past}

-- how many pass a test that the first ones alone pass
pub count-parted : {X : Type 0} (p : X → Bool) (xs : List X) (i : ℕ) → i ≤ length xs → IsPartitionPoint (λ y. p y ≡ true) (λ y. p y ≡ false) xs i → i ≡ length (filter p xs)
count-parted p [] i within parted = omega arith
count-parted p (x ∷ xs) zero within parted =
    let e : p x ≡ false = parted.1 0 x (omega arith) (omega arith) in
    let others : 0 ≡ length (filter p xs) = count-parted p xs 0 (omega arith) ((λ k d a b. absurd (omega (arith, a, b))), (λ k d a b. parted.1 (suc k) d (omega arith) (omega (arith, b)))) in
    rw e others
count-parted p (x ∷ xs) (suc i) within parted =
    let e : p x ≡ true = parted.0 0 x (omega arith) (omega arith) in
    let others : i ≡ length (filter p xs) = count-parted p xs i (omega (arith, within)) ((λ k d a b. parted.0 (suc k) d (omega arith) (omega (arith, b))), (λ k d a b. parted.1 (suc k) d (omega (arith, a)) (omega (arith, b)))) in
    rw e (ap suc others)

-- each point stands below the next
pub climbs-next : (ps : List Point) (k : ℕ) (d : Point) → Climbs (knots_at ps) → suc k < length ps → (get_or ps k d).x <ℤ (get_or ps (suc k) d).x
climbs-next [] k d up below = absurd (omega (arith, below))
climbs-next (p ∷ []) k d up below = absurd (omega (arith, below))
climbs-next (p ∷ q ∷ ps) zero d up below = up.0.0
climbs-next (p ∷ q ∷ ps) (suc k) d up below = climbs-next (q ∷ ps) k d up.1 (omega (arith, below))

later-above : (x : ℤ) (ps : List Point) (k : ℕ) (d : Point) → AllByRecursion (λ q. x <ℤ q.x) (knots_at ps) → k < length ps → x <ℤ (get_or ps k d).x
later-above x [] k d all below = absurd (omega (arith, below))
later-above x (p ∷ ps) zero d all below = all.0
later-above x (p ∷ ps) (suc k) d all below = later-above x ps k d all.1 (omega (arith, below))

module _ (raw : ℤ) where
  abbrev pub is_low : Point → Bool
  is_low p = int_le p.x raw

  -- no point above a raw number comes before one that isn't
  pub parted-at : (ps : List Point) → Climbs (knots_at ps) → IsPartitionedBy is_low ps
  parted-at [] up i j d a b h = absurd (omega (arith, b))
  parted-at (p ∷ ps) up zero zero d a b h = h
  parted-at (p ∷ ps) up zero (suc j) d a b h =
      le-past p.x (get_or ps j d).x raw (later-above p.x ps j d up.0 (omega (arith, b))) (le-holds (get_or ps j d).x raw h)
  parted-at (p ∷ ps) up (suc i) zero d a b h = absurd (omega (arith, a))
  parted-at (p ∷ ps) up (suc i) (suc j) d a b h = parted-at ps up.1 i j d (omega (arith, a)) (omega (arith, b)) h

  abbrev starts : Knot × Knot → Bool
  starts pair = int_le pair.0.x raw

  -- none begins at or below the raw number where the first point is above it
  none-starts : (p : Knot) (ps : List Knot) → Climbs (p ∷ ps) → int_le p.x raw ≡ false → filter starts (neighbours (p ∷ ps)) ≡ []
  none-starts p [] up e = refl
  none-starts p (q ∷ ps) up e = rw e (none-starts q ps up.1 (gt-test q.x raw (lt-past raw p.x q.x (le-fails p.x raw e) up.0.0)))

  none-low : (p : Point) (ps : List Point) → Climbs (knots_at (p ∷ ps)) → int_le p.x raw ≡ false → filter is_low (p ∷ ps) ≡ []
  none-low p [] up e = rw e refl
  none-low p (q ∷ ps) up e = rw e (none-low q ps up.1 (gt-test q.x raw (lt-past raw p.x q.x (le-fails p.x raw e) up.0.0)))

  -- two neighbours among points
  abbrev pub pair_from : List Point → ℕ → Point → Knot × Knot
  pair_from ps k d = (knot_at (get_or ps k d), knot_at (get_or ps (suc k) d))

  abbrev pub place_of : List Point → List Point → ℕ
  place_of ps more = min (length (filter is_low ps) - 1) (length more)

  -- where the first point isn't above the raw number, the last pair that begins at or below it
  last-pair : (p q : Point) (more : List Point) (d : Point) (o : Option (Knot × Knot)) → Climbs (knots_at (p ∷ q ∷ more)) → int_le p.x raw ≡ true
      → (k : ℕ) → k ≡ place_of (p ∷ q ∷ more) more → last_or o (filter starts (neighbours (knots_at (p ∷ q ∷ more)))) ≡ Some (pair_from (p ∷ q ∷ more) k d)
  last-pair p q [] d o up e k is = let z : k ≡ 0 = omega (arith, is) in rw (z, e) refl
  last-pair p q (r ∷ rest) d o up e k is = go (int_le q.x raw) refl (λ o. last-pair q r rest d o up.1) where
    go : (b : Bool) → int_le q.x raw ≡ b
        → ((o : Option (Knot × Knot)) → int_le q.x raw ≡ true → (k : ℕ) → k ≡ place_of (q ∷ r ∷ rest) rest → last_or o (filter starts (neighbours (knots_at (q ∷ r ∷ rest)))) ≡ Some (pair_from (q ∷ r ∷ rest) k d))
        → last_or o (filter starts (neighbours (knots_at (p ∷ q ∷ r ∷ rest)))) ≡ Some (pair_from (p ∷ q ∷ r ∷ rest) k d)
    go true f others =
        let one : length (filter is_low (p ∷ q ∷ r ∷ rest)) ≡ suc (length (filter is_low (q ∷ r ∷ rest))) = rw e refl in
        let two : length (filter is_low (q ∷ r ∷ rest)) ≡ suc (length (filter is_low (r ∷ rest))) = rw f refl in
        let next : k ≡ suc (place_of (q ∷ r ∷ rest) rest) = omega (arith, is, one, two) in
        let found = others (Some (knot_at p, knot_at q)) f (place_of (q ∷ r ∷ rest) rest) refl in
        rw (next, e) found
    go false f others =
        let rest-low : filter is_low (q ∷ r ∷ rest) ≡ [] = none-low q (r ∷ rest) up.1 f in
        let one : length (filter is_low (p ∷ q ∷ r ∷ rest)) ≡ suc (length (filter is_low (q ∷ r ∷ rest))) = rw e refl in
        let two : length (filter is_low (q ∷ r ∷ rest)) ≡ 0 = ap length rest-low in
        let z : k ≡ 0 = omega (arith, is, one, two) in
        let none = none-starts (knot_at q) (knots_at (r ∷ rest)) up.1 f in
        let first : filter starts (neighbours (knots_at (p ∷ q ∷ r ∷ rest))) ≡ (knot_at p, knot_at q) ∷ filter starts (neighbours (knots_at (q ∷ r ∷ rest))) = rw e refl in
        rw z (ap (last_or o) first ∙ ap (last_or (Some (knot_at p, knot_at q))) none)

  pub pair-at : (p q : Point) (more : List Point) (d : Point) → Climbs (knots_at (p ∷ q ∷ more)) → (k : ℕ) → k ≡ place_of (p ∷ q ∷ more) more
      → pair_for raw (neighbours (knots_at (p ∷ q ∷ more))) ≡ Some (pair_from (p ∷ q ∷ more) k d)
  pair-at p q more d up k is = go (int_le p.x raw) refl where
    go : (b : Bool) → int_le p.x raw ≡ b → pair_for raw (neighbours (knots_at (p ∷ q ∷ more))) ≡ Some (pair_from (p ∷ q ∷ more) k d)
    go true e = last-pair p q more d (Some (knot_at p, knot_at q)) up e k is
    go false e =
        let none = none-starts (knot_at p) (knots_at (q ∷ more)) up e in
        let two : length (filter is_low (p ∷ q ∷ more)) ≡ 0 = ap length (none-low p (q ∷ more) up e) in
        let z : k ≡ 0 = omega (arith, is, two) in
        rw z (ap (last_or (Some (knot_at p, knot_at q))) none)

  -- of two points at least, the place of the first of the two
  pub pair-in : (ps : List Point) (d : Point) → Climbs (knots_at ps) → (n k : ℕ) → n + 2 ≡ length ps → k ≡ min (length (filter is_low ps) - 1) n
      → pair_for raw (neighbours (knots_at ps)) ≡ Some (pair_from ps k d)
  pair-in [] d up n k long is = absurd (omega (arith, long))
  pair-in (p ∷ []) d up n k long is = absurd (omega (arith, long))
  pair-in (p ∷ q ∷ more) d up n k long is =
      let same : n ≡ length more = omega (arith, long) in
      pair-at p q more d up k (is ∙ ap (min (length (filter is_low (p ∷ q ∷ more)) - 1)) same)

  -- fewer than two points have no pair
  pub pair-none : (ps : List Point) → length ps < 2 → pair_for raw (neighbours (knots_at ps)) ≡ None
  pair-none [] few = refl
  pair-none (p ∷ []) few = refl
  pair-none (p ∷ q ∷ more) few = absurd (omega (arith, few))

-- slopes of which none is there yet
pub no-slopes : (ps : List Point) → AreSlopes (knots_at ps) []
no-slopes [] = tt
no-slopes (p ∷ []) = tt
no-slopes (p ∷ q ∷ more) = tt

-- one slope more
pub slopes-more : (ps : List Point) (slopes : List (Option Slope)) (slope : Option Slope) (d : Point) → AreSlopes (knots_at ps) slopes → suc (length slopes) < length ps
    → IfSome slope (IsSlope (knot_at (get_or ps (length slopes) d)) (knot_at (get_or ps (suc (length slopes)) d))) → AreSlopes (knots_at ps) (slopes ++ slope ∷ [])
slopes-more [] slopes slope d all below is = absurd (omega (arith, below))
slopes-more (p ∷ []) slopes slope d all below is = absurd (omega (arith, below))
slopes-more (p ∷ q ∷ more) [] slope d all below is = (is, no-slopes (q ∷ more))
slopes-more (p ∷ q ∷ more) (s ∷ slopes) slope d all below is = (all.0, slopes-more (q ∷ more) slopes slope d all.1 (omega (arith, below)) is)

-- the slope behind a point is that to the next
pub slope-at : (ps : List Point) (slopes : List (Option Slope)) (k : ℕ) (d : Point) → AreSlopes (knots_at ps) slopes → suc k < length ps
    → IfSome (get_or slopes k None) (IsSlope (knot_at (get_or ps k d)) (knot_at (get_or ps (suc k) d)))
slope-at [] slopes k d all below = absurd (omega (arith, below))
slope-at (p ∷ []) slopes k d all below = absurd (omega (arith, below))
slope-at (p ∷ q ∷ more) [] k d all below = tt
slope-at (p ∷ q ∷ more) (s ∷ slopes) zero d all below = all.0
slope-at (p ∷ q ∷ more) (s ∷ slopes) (suc k) d all below = slope-at (q ∷ more) slopes k d all.1 (omega (arith, below))

pub climbs-step : (ps : List Point) (k : ℕ) (d : Point) → Climbs (knots_at ps) → k + 1 < length ps → (get_or ps k d).x <ℤ (get_or ps (k + 1) d).x
climbs-step ps k d up below = rw (add-one k) (climbs-next ps k d up (omega (arith, below)))

pub slope-step : (ps : List Point) (slopes : List (Option Slope)) (k : ℕ) (d : Point) → AreSlopes (knots_at ps) slopes → k + 1 < length ps
    → IfSome (get_or slopes k None) (IsSlope (knot_at (get_or ps k d)) (knot_at (get_or ps (k + 1) d)))
slope-step ps slopes k d all below = rw (add-one k) (slope-at ps slopes k d all (omega (arith, below)))

pub ruleset pairs = (climbs-step, slope-step)

pub climbs-before : (ps : List Point) (at : ℕ) (d : Point) → Climbs (knots_at ps) → 0 < at → at < length ps → (get_or ps (at - 1) d).x <ℤ (get_or ps at d).x
climbs-before ps zero d up some below = absurd (omega (arith, some))
climbs-before ps (suc k) d up some below = rw (suc-less k) (climbs-next ps k d up below)
  where
    suc-less : (k : ℕ) → suc k - 1 ≡ k
    suc-less k = omega arith

pub slopes-before : (ps : List Point) (slopes more : List (Option Slope)) (slope : Option Slope) (at : ℕ) (d : Point) → AreSlopes (knots_at ps) slopes → length slopes + 1 ≡ at → at < length ps
    → IfSome slope (IsSlope (knot_at (get_or ps (at - 1) d)) (knot_at (get_or ps at d))) → more ≡ slopes ++ slope ∷ [] → AreSlopes (knots_at ps) more
slopes-before ps slopes more slope at d all count below is added =
    let place : at ≡ suc (length slopes) = omega (arith, count) in
    let before : at - 1 ≡ length slopes = omega (arith, count) in
    rw added (slopes-more ps slopes slope d all (omega (arith, count, below)) (rw (before, place) at is))

pub ruleset sloped = (climbs-before, slopes-before, no-slopes)

-- there are fewer slopes than points
slopes-fewer : (ps : List Point) (slopes : List (Option Slope)) (k : ℕ) → AreSlopes (knots_at ps) slopes → k < length slopes → suc k < length ps
slopes-fewer ps [] k all below = absurd (omega (arith, below))
slopes-fewer [] (s ∷ slopes) k all below = absurd all
slopes-fewer (p ∷ []) (s ∷ slopes) k all below = absurd all
slopes-fewer (p ∷ q ∷ more) (s ∷ slopes) zero all below = omega arith
slopes-fewer (p ∷ q ∷ more) (s ∷ slopes) (suc k) all below =
    let others = slopes-fewer (q ∷ more) slopes k all.1 (omega (arith, below)) in omega (arith, others)

-- the slope at a place is that of the line there
slope-there : (ps : List Point) (slopes : List (Option Slope)) (k : ℕ) (s : Slope) (d : Point) → AreSlopes (knots_at ps) slopes → k < length slopes → Some s ≡ get_or slopes k None
    → IsSlope (knot_at (get_or ps k d)) (knot_at (get_or ps (suc k) d)) s
slope-there ps slopes k s d all below is = rw (sym is) at (slope-at ps slopes k d all (slopes-fewer ps slopes k all below))

-- the points on both sides of a raw number are those that it is taken by
module _ (raw : ℤ) (ps : List Point) (up : Climbs (knots_at ps)) (k : ℕ) (within : suc k < length ps)
    (first : (d : Point) → (get_or ps k d).x ≤ℤ raw) (second : (d : Point) → raw <ℤ (get_or ps (suc k) d).x) where
  parted-here : IsPartitionPoint (λ y. is_low raw y ≡ true) (λ y. is_low raw y ≡ false) ps (suc k)
  parted-here = (below, above) where
    below : (i : ℕ) (d : Point) → 0 ≤ i → i < suc k → is_low raw (get_or ps i d) ≡ true
    below i d a b = parted-at raw ps up i k d (omega (arith, b)) (omega (arith, within)) (le-test (get_or ps k d).x raw (first d))

    above : (i : ℕ) (d : Point) → suc k ≤ i → i < length ps → is_low raw (get_or ps i d) ≡ false
    above i d a b = go (is_low raw (get_or ps i d)) refl where
      go : (t : Bool) → is_low raw (get_or ps i d) ≡ t → is_low raw (get_or ps i d) ≡ false
      go false e = e
      go true e =
          let low = le-holds (get_or ps (suc k) d).x raw (parted-at raw ps up (suc k) i d a b e) in
          let high = second d in
          absurd (omega (arith, ints, low, high))

  pub pair-here : (d : Point) → pair_for raw (neighbours (knots_at ps)) ≡ Some (pair_from raw ps k d)
  pair-here d =
      let counted : suc k ≡ length (filter (is_low raw) ps) = count-parted (is_low raw) ps (suc k) (omega (arith, within)) parted-here in
      let long : length ps - 2 + 2 ≡ length ps = omega (arith, within) in
      let place : k ≡ min (length (filter (is_low raw) ps) - 1) (length ps - 2) = omega (arith, within, counted) in
      pair-in raw ps d up (length ps - 2) k long place

-- what a curve makes of a raw number on a line before its end
pub on-slope : (ps : List Point) (slopes : List (Option Slope)) (k inter : ℕ) (s : Slope) (raw count : ℤ) → Climbs (knots_at ps) → AreSlopes (knots_at ps) slopes → k < length slopes
    → Some s ≡ get_or slopes k None → IsOnLine s raw count → raw <ℤ (s.x +ℤ pos s.run) → Counted count ≡ on_pair inter raw (pair_for raw (neighbours (knots_at ps)))
on-slope [] slopes k inter s raw count up all below is on before = absurd (omega (arith, slopes-fewer [] slopes k all below))
on-slope (p ∷ ps) slopes k inter s raw count up all below is on before =
    let slope : (d : Point) → IsSlope (knot_at (get_or (p ∷ ps) k d)) (knot_at (get_or (p ∷ ps) (suc k) d)) s = λ d. slope-there (p ∷ ps) slopes k s d all below is in
    let first : (d : Point) → (get_or (p ∷ ps) k d).x ≤ℤ raw = λ d. let it = slope d in omega (arith, ints, it.x, on.low) in
    let second : (d : Point) → raw <ℤ (get_or (p ∷ ps) (suc k) d).x = λ d. let it = slope d in omega (arith, ints, it.x, it.run, before) in
    on-line (knot_at (get_or (p ∷ ps) k p)) (knot_at (get_or (p ∷ ps) (suc k) p)) inter raw count s (slope p) on ∙
    ap (on_pair inter raw) (sym (pair-here raw (p ∷ ps) up k (slopes-fewer (p ∷ ps) slopes k all below) first second p))

-- a slope at a place is that of a line whose numbers fit words
pub slope-line : (ps : List Point) (slopes : List (Option Slope)) (k : ℕ) (s : Slope) → AreSlopes (knots_at ps) slopes → k < length slopes → Some s ≡ get_or slopes k None → IsLine s
slope-line [] slopes k s all below is = absurd (omega (arith, slopes-fewer [] slopes k all below))
slope-line (p ∷ ps) slopes k s all below is = (slope-there (p ∷ ps) slopes k s p all below is).line

-- the slope that is read at a place stands there
pub slot-read : (slopes read : List (Option Slope)) (k : ℕ) (o : Option Slope) (s : Slope) → read ≡ slopes → true ≡ nat_lt k (length read) → o ≡ get_or read k o → o ≡ Some s
    → (k < length slopes) × (Some s ≡ get_or slopes k None)
slot-read slopes read k o s same inside stands is =
    let here : k < length slopes = rw same at (nat_lt-holds k (length read) inside) in
    let there : o ≡ get_or slopes k o = rw same at stands in
    (here, sym is ∙ (there ∙ get_or_default slopes k o None here))
  where
    nat_lt-holds : (a b : ℕ) → true ≡ nat_lt a b → a < b
    nat_lt-holds a b h = grind (arith, nat_tests, h)

-- of a value where there is one, what follows from what is known
pub known-more : {X : Type 0} (P Q : X → Type 0) (o : Option X) → ((x : X) → P x → Q x) → IfSome o P → IfSome o Q
known-more P Q None more known = known
known-more P Q (Some x) more known = more x known
