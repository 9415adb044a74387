-- Fronts of one history, and how long it can be.
use Rattle.std.proofs.Common.{◌≡◌, ◌≢◌, ℕ, zero, suc, Bool, true, false, cond, ◌+◌, ◌*◌, ◌<◌, ◌≤◌, List, [], ◌∷◌, ◌++◌, length, refl, sym, ap, ◌∙◌, leb-true, leb-false, nat_le, length-append, append-nil, eq-eqb, ne_eqb, arith}
use mathlib.Core.Logic.{dite}
use native.Mathlib.Decide.{ℕ_discrete}
use Rattle.histories.specs.declared.history.Move.{Move}
use Rattle.histories.specs.History.{moves_of, IsOfSeatsBelow, StartsWith}
use Rattle.histories.proofs.HistoryFacts.{IsOfSeatsBelow-rest}
use Rattle.turn_cell.specs.declared.view.Holding.{Holding}
use Rattle.turn_cell.specs.Views.{times, longer, AreListed}
use Rattle.turn_cell.proofs.Holdings.{moves_of-append, moves_of_is}

first_or : {M : Type 0} → M → List M → M
first_or x [] = x
first_or x (y ∷ ys) = y

others_of : {M : Type 0} → List M → List M
others_of [] = []
others_of (y ∷ ys) = ys

empty_of : {M : Type 0} (xs : List M) → length xs ≡ 0 → xs ≡ []
empty_of [] e = refl
empty_of (x ∷ xs) e = absurd (omega arith)

module _ {E A : Type 0} where
  -- of two fronts of one history the shorter is a front of the longer
  front_of_longer : (log a b more_a more_b : List (Move E A)) → log ≡ a ++ more_a → log ≡ b ++ more_b → length a ≤ length b → StartsWith b a
  unfolding first_or others_of
  front_of_longer log [] b ma mb e f le = (b, refl)
  front_of_longer log (x ∷ xs) [] ma mb e f le = absurd (omega arith)
  front_of_longer log (x ∷ xs) (y ∷ ys) ma mb e f le =
      let both : x ∷ (xs ++ ma) ≡ y ∷ (ys ++ mb) = sym e ∙ f in
      let head : x ≡ y = ap (first_or x) both in
      let r = front_of_longer (xs ++ ma) xs ys ma mb refl (ap others_of both) (omega arith) in
      (r.0, λ i. sym head i ∷ r.1 i)

  longer_by : (log a b ma mb : List (Move E A)) → log ≡ a ++ ma → log ≡ b ++ mb → (t : Bool) → nat_le (length b) (length a) ≡ t → StartsWith log (cond t a b) × StartsWith (cond t a b) a × StartsWith (cond t a b) b
  longer_by log a b ma mb e f true is = ((ma, e), ([], sym (append-nil a)), front_of_longer log b a mb ma f e (leb-true (length b) (length a) is))
  longer_by log a b ma mb e f false is = let lt = leb-false (length b) (length a) is in ((mb, f), front_of_longer log a b ma mb e f (omega arith), ([], sym (append-nil b)))

  -- the longer of two fronts is a front, and either is a front of it
  pub longer_front : (log a b : List (Move E A)) → StartsWith log a → StartsWith log b → StartsWith log (longer a b) × StartsWith (longer a b) a × StartsWith (longer a b) b
  longer_front log a b s t = longer_by log a b s.0 t.0 s.1 t.1 (nat_le (length b) (length a)) refl

  -- a history between a front and the whole has no further move of a number that has none
  between : (n : ℕ) (log b a moves : List (Move E A)) → StartsWith log b → StartsWith b a → moves_of n log ≡ moves → moves_of n a ≡ moves → moves_of n b ≡ moves
  between n log b a moves whole begins all some =
      let more : List (Move E A) = begins.0 in
      let of_b : moves_of n b ≡ moves_of n a ++ moves_of n more = ap (moves_of n) begins.1 ∙ moves_of-append n a more in
      let of_log : moves_of n log ≡ moves_of n b ++ moves_of n whole.0 = ap (moves_of n) whole.1 ∙ moves_of-append n b whole.0 in
      let one = ap (λ (l : List (Move E A)). length l) of_b ∙ length-append (moves_of n a) (moves_of n more) in
      let two = ap (λ (l : List (Move E A)). length l) of_log ∙ length-append (moves_of n b) (moves_of n whole.0) in
      let three = ap (λ (l : List (Move E A)). length l) (all ∙ sym some) in
      let none : length (moves_of n more) ≡ 0 = omega arith in
      of_b ∙ ap (λ (l : List (Move E A)). moves_of n a ++ l) (empty_of (moves_of n more) none) ∙ append-nil (moves_of n a) ∙ some

  pub AreListed-between : (log b a : List (Move E A)) (hs : List (Holding E A)) → StartsWith log b → StartsWith b a → AreListed log hs → AreListed a hs → AreListed b hs
  AreListed-between log b a [] whole begins all some = tt
  AreListed-between log b a (h ∷ hs) whole begins all some = (between h.number log b a h.moves whole begins all.0 some.0, AreListed-between log b a hs whole begins all.1 some.1)

  -- a front with all moves of all numbers is the whole history
  pub whole_front : (callers : ℕ) (hs : List (Holding E A)) (seen more : List (Move E A)) → IsOfSeatsBelow callers (seen ++ more) → ((n : ℕ) → n < callers → times n hs ≢ 0) → AreListed (seen ++ more) hs → AreListed seen hs → seen ++ more ≡ seen
  whole_front callers hs seen [] below held all within = append-nil seen
  whole_front callers hs seen (m ∷ ms) below held all within =
      let lt : m.seat < callers = (IsOfSeatsBelow-rest callers seen (m ∷ ms) below).0 in
      let same : moves_of m.seat (seen ++ m ∷ ms) ≡ moves_of m.seat seen = moves_of_is (seen ++ m ∷ ms) m.seat hs all (held m.seat lt) ∙ sym (moves_of_is seen m.seat hs within (held m.seat lt)) in
      let e = ap (λ (l : List (Move E A)). length l) (sym same ∙ moves_of-append m.seat seen (m ∷ ms)) in
      let more : length (moves_of m.seat (m ∷ ms)) ≡ suc (length (moves_of m.seat ms)) = ap (λ b. length (cond b (m ∷ moves_of m.seat ms) (moves_of m.seat ms))) (eq-eqb m.seat m.seat refl) in
      let sum = length-append (moves_of m.seat seen) (moves_of m.seat (m ∷ ms)) in
      absurd (omega arith)

  -- how many moves the numbers below k have
  count : ℕ → List (Move E A) → ℕ
  count zero log = 0
  count (suc k) log = length (moves_of k log) + count k log

  count-none : (k : ℕ) (log : List (Move E A)) → log ≡ [] → count k log ≡ 0
  unfolding count
  count-none zero log e = refl
  count-none (suc k) log e = let none : length (moves_of k log) ≡ 0 = ap (λ (l : List (Move E A)). length (moves_of k l)) e in omega (arith, none, count-none k log e)

  count-past : (k : ℕ) (m : Move E A) (ms : List (Move E A)) → k ≤ m.seat → count k (m ∷ ms) ≡ count k ms
  unfolding count
  count-past zero m ms le = refl
  count-past (suc k) m ms le =
      let e : length (moves_of k (m ∷ ms)) ≡ length (moves_of k ms) = ap (λ b. length (cond b (m ∷ moves_of k ms) (moves_of k ms))) (ne_eqb m.seat k (λ e. omega arith)) in
      omega (arith, e, count-past k m ms (omega arith))

  count-one : (k : ℕ) (m : Move E A) (ms : List (Move E A)) → m.seat < k → count k (m ∷ ms) ≡ suc (count k ms)
  unfolding count
  count-one zero m ms lt = absurd (omega arith)
  count-one (suc k) m ms lt = dite (ℕ_discrete m.seat k)
      (λ is.
      let e : length (moves_of k (m ∷ ms)) ≡ suc (length (moves_of k ms)) = ap (λ b. length (cond b (m ∷ moves_of k ms) (moves_of k ms))) (eq-eqb m.seat k is) in
      omega (arith, e, count-past k m ms (omega arith)))
      (λ other.
      let e : length (moves_of k (m ∷ ms)) ≡ length (moves_of k ms) = ap (λ b. length (cond b (m ∷ moves_of k ms) (moves_of k ms))) (ne_eqb m.seat k other) in
      omega (arith, e, count-one k m ms (omega arith)))

  count-all : (k : ℕ) (log : List (Move E A)) → IsOfSeatsBelow k log → count k log ≡ length log
  count-all k [] below = count-none k [] refl
  count-all k (m ∷ ms) below = omega (arith, count-one k m ms below.0, count-all k ms below.1)

  count-le : (k : ℕ) (log : List (Move E A)) → ((n : ℕ) → length (moves_of n log) ≤ 4294967296) → count k log ≤ 4294967296 * k
  unfolding count
  count-le zero log short = omega arith
  count-le (suc k) log short = omega (arith, short k, count-le k log short)

  -- where no number has more than 2^32 moves, all have no more than so many times the numbers
  pub length-le : (k : ℕ) (log : List (Move E A)) → IsOfSeatsBelow k log → ((n : ℕ) → length (moves_of n log) ≤ 4294967296) → length log ≤ 4294967296 * k
  length-le k log below short = omega (arith, count-all k log below, count-le k log short)
