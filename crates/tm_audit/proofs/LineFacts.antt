-- The first line of a text.
use Rattle.std.proofs.Common.{◌≡◌, ℕ, suc, ◌+◌, ◌<◌, ◌≤◌, min, Bool, true, false, cond, not, List, [], ◌∷◌, Some, None, nat_lt, ◌-◌, position, find, length, take, drop, refl, sym, ap, ◌∙◌, arith}
use Rattle.std.specs.List.{position_or_len, range_with_len}
use Rattle.std.proofs.lemmas.Bool.{ltb-false}
use Rattle.mib_model.specs.Lines.{is_feed}
use Rattle.tm_audit.specs.TextLines.{text_lines, with_octet}

-- the octets of the first line
size : List ℕ → ℕ
size [] = 0
size (octet ∷ rest) = cond (is_feed octet) 1 (suc (size rest))

size-is : (text : List ℕ) → size text ≡ min (position_or_len is_feed text + 1) (length text)
unfolding size
size-is [] = omega arith
size-is (octet ∷ rest) = by (is_feed octet) (size-is rest) where
  by : (feed : Bool) → size rest ≡ min (position_or_len is_feed rest + 1) (length rest)
      → cond feed 1 (suc (size rest)) ≡ min (cond (not feed) (1 + position_or_len is_feed rest) 0 + 1) (length (octet ∷ rest))
  by true more = omega arith
  by false more = omega (arith, more)

first-by : (feed : Bool) (octet : ℕ) (rest : List ℕ) → (0 < length rest → text_lines rest ≡ take (size rest) rest ∷ text_lines (drop (size rest) rest))
    → cond feed ((octet ∷ []) ∷ text_lines rest) (with_octet octet (text_lines rest))
    ≡ take (cond feed 1 (suc (size rest))) (octet ∷ rest) ∷ text_lines (drop (cond feed 1 (suc (size rest))) (octet ∷ rest))
unfolding text_lines size
first-by true octet rest again = refl
first-by false octet [] again = refl
first-by false octet (next ∷ rest) again = ap (with_octet octet) (again (omega arith))

first-line : (text : List ℕ) → 0 < length text → text_lines text ≡ take (size text) text ∷ text_lines (drop (size text) text)
unfolding text_lines size
first-line [] some = absurd (omega (arith, some))
first-line (octet ∷ rest) some = first-by (is_feed octet) octet rest (λ some. first-line rest some)

pub first-of-lines : (text : List ℕ) (n : ℕ) → n ≡ min (position_or_len is_feed text + 1) (length text) → 0 < length text
    → text_lines text ≡ take n text ∷ text_lines (drop n text)
first-of-lines text n is some = let long = size-is text ∙ sym is in rw (← long) (first-line text some)

place-inside : {X : Type 0} (p : X → Bool) (xs : List X) → position_or_len p xs ≤ length xs
place-inside p [] = omega arith
place-inside p (x ∷ xs) = by (p x) (place-inside p xs) where
  by : (passes : Bool) → position_or_len p xs ≤ length xs → cond (not passes) (1 + position_or_len p xs) 0 ≤ length (x ∷ xs)
  by true more = omega arith
  by false more = omega (arith, more)

-- where the first item stands that passes a test
pub some-place : {X : Type 0} (p : X → Bool) (xs : List X) (at : ℕ) → Some at ≡ position p xs → at ≡ position_or_len p xs
some-place p xs at is = by (nat_lt (position_or_len p xs) (length xs)) is where
  by : (inside : Bool) → Some at ≡ cond inside (Some (position_or_len p xs)) None → at ≡ position_or_len p xs
  by true is = cc
  by false is = absurd (cc is)

pub no-place : {X : Type 0} (p : X → Bool) (xs : List X) → None ≡ position p xs → length xs ≡ position_or_len p xs
no-place p xs is = by (nat_lt (position_or_len p xs) (length xs)) refl is where
  by : (inside : Bool) → nat_lt (position_or_len p xs) (length xs) ≡ inside → None ≡ cond inside (Some (position_or_len p xs)) None → length xs ≡ position_or_len p xs
  by true test is = absurd (cc is)
  by false test is = omega (arith, ltb-false _ _ test, place-inside p xs)

pub ruleset places = (some-place, no-place)

-- looking for a number from one on
pub find-from : (p : ℕ → Bool) (from past : ℕ) → from < past → find p (range_with_len from (past - from)) ≡ cond (p from) (Some from) (find p (range_with_len (from + 1) (past - (from + 1))))
find-from p from past less =
    let more : past - from ≡ suc (past - (from + 1)) = omega (arith, less) in
    ap (λ (n : ℕ). find p (range_with_len from n)) more

pub find-past : (p : ℕ → Bool) (from past : ℕ) → past ≤ from → find p (range_with_len from (past - from)) ≡ None
find-past p from past past_all =
    let none : past - from ≡ 0 = omega (arith, past_all) in
    ap (λ (n : ℕ). find p (range_with_len from n)) none

-- no octets have no lines
pub no-lines : (text : List ℕ) → length text ≡ 0 → text_lines text ≡ []
unfolding text_lines
no-lines [] none = refl
no-lines (octet ∷ rest) none = absurd (omega (arith, none))
