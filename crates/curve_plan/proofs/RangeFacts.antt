-- The only one of separate ranges that holds a raw number.
use Rattle.std.proofs.Common.{◌≡◌, ℕ, zero, suc, ◌+◌, ◌-◌, ◌<◌, ◌≤◌, inl, inr, ℤ, ◌<ℤ◌, ◌≤ℤ◌, Bool, true, false, ◌&&◌, List, [], ◌∷◌, Option, Some, None, IsPermutation, cond, filter_map, length, get_or, int_le, int_lt, refl, sym, ap, subst, ◌∙◌, arith}
use Rattle.std.proofs.lemmas.Bool.{cases_order}
use Rattle.std.proofs.lemmas.Int.{ints}
use Rattle.std.proofs.lemmas.List.{get_or_default}
use Rattle.std.proofs.lemmas.List.Sorted.{IsPermutation-refl}
use Rattle.std.specs.List.{find}
use Rattle.std.specs.List.Sorted.{IsPartitionPoint, IsPartitionedBy}
use Rattle.curve_plan.specs.declared.ranges.Range.{Range}
use Rattle.curve_plan.proofs.FindFacts.{found-none, found-only, found-same}
use Rattle.mib_model.specs.declared.rows.TxpRow.{TxpRow}
use Rattle.mib_model.specs.Curves.{spans, status_text}
use Rattle.mib_model.specs.WholeNumbers.{decimal_whole}
use Rattle.curve_plan.specs.Ranges.{holds_raw, precedes, range_of, text_of_range, AreSeparate}
use Rattle.curve_plan.proofs.NumberTests.{gt-test, le-holds, le-test, lt-holds}

left-true : (a b : Bool) → (a && b) ≡ true → a ≡ true
left-true true b h = refl
left-true false b h = absurd (cc h)

right-true : (a b : Bool) → (a && b) ≡ true → b ≡ true
right-true true b h = h
right-true false b h = absurd (cc h)

left-false : (a b : Bool) → a ≡ false → (a && b) ≡ false
left-false true b h = absurd (cc h)
left-false false b h = refl

right-false : (a b : Bool) → b ≡ false → (a && b) ≡ false
right-false true b h = h
right-false false b h = refl

both-true : (a b : Bool) → a ≡ true → b ≡ true → (a && b) ≡ true
both-true true b h k = k
both-true false b h k = absurd (cc h)

lows : (a b : Range) → precedes a b ≡ true → a.low ≤ℤ b.low
lows a b h = le-holds a.low b.low (left-true (int_le a.low b.low) (int_lt a.high b.low) h)

ends : (a b : Range) → precedes a b ≡ true → a.high <ℤ b.low
ends a b h = lt-holds a.high b.low (right-true (int_le a.low b.low) (int_lt a.high b.low) h)

from-low : (raw : ℤ) (r : Range) → holds_raw raw r ≡ true → r.low ≤ℤ raw
from-low raw r h = le-holds r.low raw (left-true (int_le r.low raw) (int_le raw r.high) h)

to-high : (raw : ℤ) (r : Range) → holds_raw raw r ≡ true → raw ≤ℤ r.high
to-high raw r h = le-holds raw r.high (right-true (int_le r.low raw) (int_le raw r.high) h)

not-from : (raw : ℤ) (r : Range) → int_le r.low raw ≡ false → holds_raw raw r ≡ false
not-from raw r h = left-false (int_le r.low raw) (int_le raw r.high) h

not-to : (raw : ℤ) (r : Range) → r.high <ℤ raw → holds_raw raw r ≡ false
not-to raw r h = right-false (int_le r.low raw) (int_le raw r.high) (gt-test raw r.high h)

-- a range ends before any later one begins, and begins no later
later-range : (xs : List Range) → AreSeparate xs → (i n : ℕ) (d : Range) → i + suc n < length xs
    → ((get_or xs i d).low ≤ℤ (get_or xs (i + suc n) d).low) × ((get_or xs i d).high <ℤ (get_or xs (i + suc n) d).low)
later-range xs apart i zero d below =
    let one = apart i d (omega (arith, below)) in
    (lows (get_or xs i d) (get_or xs (i + 1) d) one, ends (get_or xs i d) (get_or xs (i + 1) d) one)
later-range xs apart i (suc n) d below =
    let before = later-range xs apart i n d (omega (arith, below)) in
    let next = apart (i + suc n) d (omega (arith, below)) in
    let same : i + suc n + 1 ≡ i + suc (suc n) = omega arith in
    let low = lows (get_or xs (i + suc n) d) (get_or xs (i + suc n + 1) d) next in
    let low' : (get_or xs (i + suc n) d).low ≤ℤ (get_or xs (i + suc (suc n)) d).low = subst (λ k. (get_or xs (i + suc n) d).low ≤ℤ (get_or xs k d).low) same low in
    (omega (arith, ints, before.0, low'), omega (arith, ints, before.1, low'))

further : (i j : ℕ) → i < j → i + suc (j - suc i) ≡ j
further i j h = omega (arith, h)

-- the same, of two places
past-range : (xs : List Range) → AreSeparate xs → (i j : ℕ) (d : Range) → i < j → j < length xs
    → ((get_or xs i d).low ≤ℤ (get_or xs j d).low) × ((get_or xs i d).high <ℤ (get_or xs j d).low)
past-range xs apart i j d before below =
    rw (further i j before) at (later-range xs apart i (j - suc i) d (omega (arith, before, below)))

module _ (raw : ℤ) where
  abbrev pub begins : Range → Bool
  begins range = int_le range.low raw

  not-both : (xs : List Range) → AreSeparate xs → (i j : ℕ) (d : Range) → i < j → j < length xs → holds_raw raw (get_or xs i d) ≡ true → holds_raw raw (get_or xs j d) ≡ true → ⊥
  not-both xs apart i j d before below h k =
      let high = to-high raw (get_or xs i d) h in
      let low = from-low raw (get_or xs j d) k in
      let past = past-range xs apart i j d before below in
      omega (arith, ints, high, low, past.1)

  -- at most one of separate ranges holds a raw number
  once : (xs : List Range) → AreSeparate xs → (i j : ℕ) (d : Range) → i < length xs → j < length xs → holds_raw raw (get_or xs i d) ≡ true → holds_raw raw (get_or xs j d) ≡ true → i ≡ j
  once xs apart i j d a b h k = elim (cases_order i j) [
    | inl e ↦ e
    | inr f ↦ elim f [
      | inl l ↦ absurd (not-both xs apart i j d l b h k)
      | inr l ↦ absurd (not-both xs apart j i d l a k h)
    ]
  ]

  -- the range that holds a raw number is the same in any order
  pub separate-same : (xs ys : List Range) → IsPermutation ys xs → AreSeparate xs → find (holds_raw raw) xs ≡ find (holds_raw raw) ys
  separate-same xs ys moved apart = sym (found-same (holds_raw raw) xs ys moved (once xs apart))

  -- no range that begins above a raw number comes before one that doesn't
  pub parted-at : (xs : List Range) → AreSeparate xs → IsPartitionedBy begins xs
  parted-at xs apart i j d a b h = elim (cases_order i j) [
    | inl e ↦ ap (λ n. begins (get_or xs n d)) e ∙ h
    | inr f ↦ elim f [
      | inl l ↦ le-test (get_or xs i d).low raw (let past = past-range xs apart i j d l b in let low = le-holds (get_or xs j d).low raw h in omega (arith, ints, past.0, low))
      | inr l ↦ absurd (omega (arith, a, l))
    ]
  ]

  -- the range at a place that holds a raw number is what is found
  pub found-at-place : (xs : List Range) → AreSeparate xs → (k : ℕ) (x : Range) → k < length xs → x ≡ get_or xs k x → x.low ≤ℤ raw → raw ≤ℤ x.high → find (holds_raw raw) xs ≡ Some x
  found-at-place xs apart k x here is low high =
      let holds : holds_raw raw x ≡ true = both-true (int_le x.low raw) (int_le raw x.high) (le-test x.low raw low) (le-test raw x.high high) in
      found-only (holds_raw raw) xs xs k x (IsPermutation-refl xs) here (sym is) holds
      (λ j d b h. once xs apart j k d b here h (ap (holds_raw raw) (get_or_default xs k d x here ∙ sym is) ∙ holds))

  module _ (xs : List Range) (apart : AreSeparate xs) where
    -- none of ranges that begin above a raw number holds it
    pub halved-none : IsPartitionPoint (λ r. begins r ≡ true) (λ r. begins r ≡ false) xs 0 → find (holds_raw raw) xs ≡ None
    halved-none parted = found-none (holds_raw raw) xs xs (IsPermutation-refl xs) (λ j d b. not-from raw (get_or xs j d) (parted.1 j d (omega arith) b))

    module _ (end k : ℕ) (next : end ≡ suc k) (within : end ≤ length xs) (parted : IsPartitionPoint (λ r. begins r ≡ true) (λ r. begins r ≡ false) xs end) (x : Range) (is : x ≡ get_or xs k x) where
      abbrev here : k < length xs
      here = omega (arith, next, within)

      low-here : begins x ≡ true
      low-here = ap begins is ∙ parted.0 k x (omega arith) (omega (arith, next))

      -- the last that begins at or below a raw number, where it ends at or above it
      pub halved-some : raw ≤ℤ x.high → find (holds_raw raw) xs ≡ Some x
      halved-some up = found-at-place xs apart k x (omega (arith, next, within)) is (le-holds x.low raw low-here) up

      -- and none, where it ends below
      pub halved-past : x.high <ℤ raw → find (holds_raw raw) xs ≡ None
      halved-past down = found-none (holds_raw raw) xs xs (IsPermutation-refl xs) fails where
        fails : (j : ℕ) (d : Range) → j < length xs → holds_raw raw (get_or xs j d) ≡ false
        fails j d b = elim (cases_order j k) [
          | inl e ↦ ap (λ n. holds_raw raw (get_or xs n d)) e ∙ (ap (holds_raw raw) (get_or_default xs k d x (omega (arith, next, within)) ∙ sym is) ∙ not-to raw x down)
          | inr f ↦ elim f [
            | inl l ↦
                let past = past-range xs apart j k d l (omega (arith, next, within)) in
                let low = le-holds (get_or xs k d).low raw (parted.0 k d (omega arith) (omega (arith, next))) in
                not-to raw (get_or xs j d) (omega (arith, ints, past.1, low))
            | inr l ↦ not-from raw (get_or xs j d) (parted.1 j d (omega (arith, next, l)) b)
          ]
        ]

-- the text of the first range that holds a raw number is that of the first row that spans it
pub texts-same : (raw : ℤ) (txps : List TxpRow) → text_of_range (find (holds_raw raw) (filter_map range_of txps)) ≡ status_text (find (spans raw) txps)
texts-same raw [] = refl
texts-same raw (row ∷ rows) = go (decimal_whole row.low) (decimal_whole row.high) refl refl (texts-same raw rows) where
  kept : (low high : ℤ) (b : Bool) → text_of_range (find (holds_raw raw) (filter_map range_of rows)) ≡ status_text (find (spans raw) rows)
      → text_of_range (cond b (Some (record { low = low; high = high; text = row.altxt })) (find (holds_raw raw) (filter_map range_of rows))) ≡ status_text (cond b (Some row) (find (spans raw) rows))
  kept low high true others = refl
  kept low high false others = others

  go : (low high : Option ℤ) → decimal_whole row.low ≡ low → decimal_whole row.high ≡ high → text_of_range (find (holds_raw raw) (filter_map range_of rows)) ≡ status_text (find (spans raw) rows)
      → text_of_range (find (holds_raw raw) (filter_map range_of (row ∷ rows))) ≡ status_text (find (spans raw) (row ∷ rows))
  go None high e f others = rw e others
  go (Some low) None e f others = rw (e, f) others
  go (Some low) (Some high) e f others = rw (e, f) (kept low high (int_le low raw && int_le raw high) others)
