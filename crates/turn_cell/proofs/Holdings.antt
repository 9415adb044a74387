-- The numbers of a seat, and the moves that are listed under them.
use Rattle.std.proofs.Common.{◌≡◌, ◌≢◌, ◌⊎◌, ℕ, zero, suc, Bool, true, false, not, ◌&&◌, cond, ◌+◌, ◌<◌, ◌≤◌, ◌==◌, min, List, [], ◌∷◌, ◌++◌, length, refl, sym, ap, ◌∙◌, subst, ⊎_elim, inl, inr, eq-eqb, ne_eqb, append-nil, arith}
use Rattle.std.specs.List.{AllByRecursion, filter}
use Rattle.std.proofs.lemmas.List.Sums.{sum_by-cons, sum_by-append}
use Rattle.std.proofs.lemmas.List.Filters.{sum_by-filter_both, length-filter_both}
use Rattle.std.proofs.lemmas.List.Elements.{filter-append}
use mathlib.Core.Logic.{dite}
use native.Mathlib.Decide.{ℕ_discrete}
use Rattle.histories.specs.declared.history.Move.{Move}
use Rattle.histories.specs.History.{move, moves_of}
use Rattle.turn_cell.specs.declared.view.Holding.{Holding}
use Rattle.turn_cell.specs.Standings.{bit}
use Rattle.turn_cell.specs.Views.{holding, holdings_below, times, least, greatest, listed, AreListed, with_move, is_spare, is_handed, handed, kept}

-- the least of two is one of them
min_is : (x y : ℕ) → (min x y ≡ x) ⊎ (min x y ≡ y)
min_is x y = dite (ℕ_discrete (min x y) x) (λ e. inl e) (λ n. inr (omega arith))

module _ {E A : Type 0} where
  times-cons_same : (n : ℕ) (h : Holding E A) (hs : List (Holding E A)) → h.number ≡ n → times n (h ∷ hs) ≡ suc (times n hs)
  times-cons_same n h hs is =
      let one : bit (h.number == n) ≡ 1 = ap bit (eq-eqb h.number n is) in
      omega (arith, one, sum_by-cons (λ (k : Holding E A). bit (k.number == n)) h hs)

  times-cons_other : (n : ℕ) (h : Holding E A) (hs : List (Holding E A)) → h.number ≢ n → times n (h ∷ hs) ≡ times n hs
  times-cons_other n h hs other =
      let none : bit (h.number == n) ≡ 0 = ap bit (ne_eqb h.number n other) in
      omega (arith, none, sum_by-cons (λ (k : Holding E A). bit (k.number == n)) h hs)

  pub times-append : (n : ℕ) (hs ks : List (Holding E A)) → times n (hs ++ ks) ≡ times n hs + times n ks
  times-append n hs ks = sum_by-append (λ (k : Holding E A). bit (k.number == n)) hs ks

  pub least_held : (hs : List (Holding E A)) → 1 ≤ length hs → times (least hs) hs ≢ 0
  least_held [] le = λ e. absurd (omega arith)
  least_held (h ∷ []) le = λ e. let t = times-cons_same h.number h [] refl in absurd (omega arith)
  least_held (h ∷ k ∷ ks) le = ⊎_elim
      (λ (is : min h.number (least (k ∷ ks)) ≡ h.number). subst (λ (n : ℕ). times n (h ∷ k ∷ ks) ≢ 0) (sym is) (λ e. let t = times-cons_same h.number h (k ∷ ks) refl in absurd (omega arith)))
      (λ (is : min h.number (least (k ∷ ks)) ≡ least (k ∷ ks)). subst (λ (n : ℕ). times n (h ∷ k ∷ ks) ≢ 0) (sym is) (rest_held h (k ∷ ks) (least (k ∷ ks)) (least_held (k ∷ ks) (omega arith))))
      (min_is h.number (least (k ∷ ks)))
    where
      rest_held : (h : Holding E A) (hs : List (Holding E A)) (n : ℕ) → times n hs ≢ 0 → times n (h ∷ hs) ≢ 0
      rest_held h hs n some_n = dite (ℕ_discrete h.number n)
          (λ is e. let t = times-cons_same n h hs is in absurd (omega arith))
          (λ other e. some_n (sym (times-cons_other n h hs other) ∙ e))

  -- what is listed under a number that is held
  pub moves_of_is : (history : List (Move E A)) (n : ℕ) (hs : List (Holding E A)) → AreListed history hs → times n hs ≢ 0 → moves_of n history ≡ listed n hs
  moves_of_is history n [] all some_n = absurd (some_n refl)
  moves_of_is history n (h ∷ hs) all some_n = dite (ℕ_discrete h.number n)
      (λ is. ap (λ k. moves_of k history) (sym is) ∙ all.0 ∙ sym (ap (λ b. cond b h.moves (listed n hs)) (eq-eqb h.number n is)))
      (λ other. moves_of_is history n hs all.1 (λ e. some_n (times-cons_other n h hs other ∙ e)) ∙ sym (ap (λ b. cond b h.moves (listed n hs)) (ne_eqb h.number n other)))

  pub moves_of-one : (n : ℕ) (m : Move E A) → m.seat ≡ n → moves_of n (m ∷ []) ≡ m ∷ []
  moves_of-one n m is = ap (λ b. cond b (m ∷ []) []) (eq-eqb m.seat n is)

  pub moves_of-none : (n : ℕ) (m : Move E A) → m.seat ≢ n → moves_of n (m ∷ []) ≡ []
  moves_of-none n m other = ap (λ b. cond b (m ∷ []) []) (ne_eqb m.seat n other)

  pub moves_of-append : (n : ℕ) (xs ys : List (Move E A)) → moves_of n (xs ++ ys) ≡ moves_of n xs ++ moves_of n ys
  moves_of-append n xs ys = filter-append (λ (m : Move E A). m.seat == n) xs ys

  -- a move of another number
  pub moves_of-other : (n : ℕ) (log : List (Move E A)) (m : Move E A) → m.seat ≢ n → moves_of n (log ++ m ∷ []) ≡ moves_of n log
  moves_of-other n log m other = moves_of-append n log (m ∷ []) ∙ ap (λ l. moves_of n log ++ l) (moves_of-none n m other) ∙ append-nil (moves_of n log)

  pub moves_of-own : (n : ℕ) (log : List (Move E A)) (m : Move E A) → m.seat ≡ n → moves_of n (log ++ m ∷ []) ≡ moves_of n log ++ m ∷ []
  moves_of-own n log m is = moves_of-append n log (m ∷ []) ∙ ap (λ l. moves_of n log ++ l) (moves_of-one n m is)

  pub AreListed-with_move : (log : List (Move E A)) (m : Move E A) (hs : List (Holding E A)) → AreListed log hs → AreListed (log ++ m ∷ []) (with_move m hs)
  AreListed-with_move log m [] all = tt
  AreListed-with_move log m (h ∷ hs) all = (
    dite (ℕ_discrete h.number m.seat)
        (λ is. moves_of-own h.number log m (sym is) ∙ ap (λ l. l ++ m ∷ []) all.0 ∙ sym (ap (λ b. cond b (h.moves ++ m ∷ []) h.moves) (eq-eqb h.number m.seat is)))
        (λ other. moves_of-other h.number log m (λ e. other (sym e)) ∙ all.0 ∙ sym (ap (λ b. cond b (h.moves ++ m ∷ []) h.moves) (ne_eqb h.number m.seat other))),
    AreListed-with_move log m hs all.1,
  )

  pub AreListed-other : (log : List (Move E A)) (m : Move E A) (hs : List (Holding E A)) → times m.seat hs ≡ 0 → AreListed log hs → AreListed (log ++ m ∷ []) hs
  AreListed-other log m [] none all = tt
  AreListed-other log m (h ∷ hs) none all =
      let other : h.number ≢ m.seat = λ e. let t = times-cons_same m.seat h hs e in absurd (omega arith) in
      (moves_of-other h.number log m (λ e. other (sym e)) ∙ all.0, AreListed-other log m hs (sym (times-cons_other m.seat h hs other) ∙ none) all.1)

  pub times-with_move : (n : ℕ) (m : Move E A) (hs : List (Holding E A)) → times n (with_move m hs) ≡ times n hs
  times-with_move n m [] = refl
  times-with_move n m (h ∷ hs) =
      let f : Holding E A → ℕ = λ k. bit (k.number == n) in
      omega (arith, sum_by-cons f h hs, sum_by-cons f (holding h.number (cond (h.number == m.seat) (h.moves ++ m ∷ []) h.moves)) (with_move m hs), times-with_move n m hs)

  pub length-with_move : (m : Move E A) (hs : List (Holding E A)) → length (with_move m hs) ≡ length hs
  length-with_move m [] = refl
  length-with_move m (h ∷ hs) = omega (arith, length-with_move m hs)

  pub least-with_move : (m : Move E A) (hs : List (Holding E A)) → least (with_move m hs) ≡ least hs
  least-with_move m [] = refl
  least-with_move m (h ∷ []) = refl
  least-with_move m (h ∷ k ∷ ks) = ap (min h.number) (least-with_move m (k ∷ ks))

  pub listed-with_move : (m : Move E A) (hs : List (Holding E A)) → times m.seat hs ≢ 0 → listed m.seat (with_move m hs) ≡ listed m.seat hs ++ m ∷ []
  listed-with_move m [] some_m = absurd (some_m refl)
  listed-with_move m (h ∷ hs) some_m =
      let after : Bool → List (Move E A) = λ b. cond b (cond b (h.moves ++ m ∷ []) h.moves) (listed m.seat (with_move m hs)) in
      let before : Bool → List (Move E A) = λ b. cond b h.moves (listed m.seat hs) ++ m ∷ [] in
      dite (ℕ_discrete h.number m.seat)
      (λ is. let e = eq-eqb h.number m.seat is in ap after e ∙ sym (ap before e))
      (λ other. let e = ne_eqb h.number m.seat other in
      ap after e ∙ listed-with_move m hs (λ none. some_m (times-cons_other m.seat h hs other ∙ none)) ∙ sym (ap before e))

  -- the list of the least number after one more move under it
  pub own-with_move : (hs ks : List (Holding E A)) (event : E) (answer : A) → 1 ≤ length hs → ks ≡ with_move (move (least hs) event answer) hs → listed (least ks) ks ≡ listed (least hs) hs ++ move (least hs) event answer ∷ []
  own-with_move hs ks event answer some_number is =
      let m : Move E A = move (least hs) event answer in
      ap (λ l. listed (least l) l) is ∙ ap (λ n. listed n (with_move m hs)) (least-with_move m hs) ∙ listed-with_move m hs (least_held hs some_number)

  pub AreListed-append : (log : List (Move E A)) (hs ks : List (Holding E A)) → AreListed log hs → AreListed log ks → AreListed log (hs ++ ks)
  AreListed-append log [] ks all more = more
  AreListed-append log (h ∷ hs) ks all more = (all.0, AreListed-append log hs ks all.1 more)

  cond_all : (P : Holding E A → Type 0) (b : Bool) (h : Holding E A) (hs : List (Holding E A)) → P h → AllByRecursion P hs → AllByRecursion P (cond b (h ∷ hs) hs)
  cond_all P true h hs is all = (is, all)
  cond_all P false h hs is all = all

  pub AreListed-filter : (log : List (Move E A)) (test : Holding E A → Bool) (hs : List (Holding E A)) → AreListed log hs → AreListed log (filter test hs)
  AreListed-filter log test [] all = tt
  AreListed-filter log test (h ∷ hs) all = cond_all (λ k. moves_of k.number log ≡ k.moves) (test h) h (filter test hs) all.0 (AreListed-filter log test hs all.1)

  -- a split hands on what it does not keep
  pub times-split : (n : ℕ) (hs : List (Holding E A)) → times n (handed hs) + times n (kept hs) ≡ times n hs
  times-split n hs = sum_by-filter_both (is_handed hs) (λ h. not (is_handed hs h)) (λ h. refl) (λ (k : Holding E A). bit (k.number == n)) hs

  pub length-split : (hs : List (Holding E A)) → length (handed hs) + length (kept hs) ≡ length hs
  length-split hs = length-filter_both (is_handed hs) (λ h. not (is_handed hs h)) (λ h. refl) hs

  pub least-le : (k : ℕ) (hs : List (Holding E A)) → times k hs ≢ 0 → least hs ≤ k
  least-le k [] some_k = absurd (some_k refl)
  least-le k (h ∷ []) some_k = dite (ℕ_discrete h.number k) (λ is. omega arith) (λ other. absurd (some_k (times-cons_other k h [] other)))
  least-le k (h ∷ j ∷ js) some_k = dite (ℕ_discrete h.number k)
      (λ is. omega arith)
      (λ other. let r = least-le k (j ∷ js) (λ none. some_k (times-cons_other k h (j ∷ js) other ∙ none)) in omega arith)

  -- what a test takes out under a number that it never passes, or always
  module _ (n : ℕ) (test : Holding E A → Bool) where
    times-filter_none : ((h : Holding E A) → h.number ≡ n → test h ≡ false) → (hs : List (Holding E A)) → times n (filter test hs) ≡ 0
    times-filter_none out [] = refl
    times-filter_none out (h ∷ hs) = dite (ℕ_discrete h.number n)
        (λ is. ap (λ b. times n (cond b (h ∷ filter test hs) (filter test hs))) (out h is) ∙ times-filter_none out hs)
        (λ other. passed (test h) h (filter test hs) other ∙ times-filter_none out hs)
      where
        passed : (b : Bool) (h : Holding E A) (hs : List (Holding E A)) → h.number ≢ n → times n (cond b (h ∷ hs) hs) ≡ times n hs
        passed true h hs other = times-cons_other n h hs other
        passed false h hs other = refl

    listed-filter : ((h : Holding E A) → h.number ≡ n → test h ≡ true) → (hs : List (Holding E A)) → listed n (filter test hs) ≡ listed n hs
    listed-filter pass [] = refl
    listed-filter pass (h ∷ hs) = dite (ℕ_discrete h.number n)
        (λ is. let e = eq-eqb h.number n is in
        ap (λ b. listed n (cond b (h ∷ filter test hs) (filter test hs))) (pass h is)
        ∙ ap (λ b. cond b h.moves (listed n (filter test hs))) e
        ∙ sym (ap (λ b. cond b h.moves (listed n hs)) e))
        (λ other. let e = ne_eqb h.number n other in
        passed (test h) h (filter test hs) e ∙ listed-filter pass hs ∙ sym (ap (λ b. cond b h.moves (listed n hs)) e))
      where
        passed : (b : Bool) (h : Holding E A) (hs : List (Holding E A)) → (h.number == n) ≡ false → listed n (cond b (h ∷ hs) hs) ≡ listed n hs
        passed true h hs e = ap (λ b. cond b h.moves (listed n hs)) e
        passed false h hs e = refl

  least_stays : (hs : List (Holding E A)) (h : Holding E A) → h.number ≡ least hs → is_handed hs h ≡ false
  least_stays hs h is = ap (λ b. (not b && (length h.moves == 0)) && (h.number == greatest (filter (is_spare hs) hs))) (eq-eqb h.number (least hs) is)

  -- a split keeps the least number, with its list
  times-kept_least : (hs : List (Holding E A)) → times (least hs) (kept hs) ≡ times (least hs) hs
  times-kept_least hs = let none = times-filter_none (least hs) (is_handed hs) (least_stays hs) hs in omega (arith, none, times-split (least hs) hs)

  pub length-kept : (hs : List (Holding E A)) → 1 ≤ length hs → 1 ≤ length (kept hs)
  length-kept hs some_number = some_of (least hs) (kept hs) (λ none. least_held hs some_number (sym (times-kept_least hs) ∙ none))
    where
      some_of : (n : ℕ) (ks : List (Holding E A)) → times n ks ≢ 0 → 1 ≤ length ks
      some_of n [] some_n = absurd (some_n refl)
      some_of n (k ∷ ks) some_n = omega arith

  pub least-kept : (hs : List (Holding E A)) → least (kept hs) ≡ least hs
  least-kept [] = refl
  least-kept (h ∷ hs) =
      let all : List (Holding E A) = h ∷ hs in let some_number : 1 ≤ length all = omega arith in
      let low = least-le (least all) (kept all) (λ none. least_held all some_number (sym (times-kept_least all) ∙ none)) in
      let own = least_held (kept all) (length-kept all some_number) in
      let high = least-le (least (kept all)) all (λ none. own (omega (arith, none, times-split (least (kept all)) all))) in
      omega arith

  pub listed-kept : (hs : List (Holding E A)) → listed (least (kept hs)) (kept hs) ≡ listed (least hs) hs
  listed-kept hs = ap (λ n. listed n (kept hs)) (least-kept hs) ∙ listed-filter (least hs) (λ h. not (is_handed hs h)) (λ h is. ap not (least_stays hs h is)) hs

  -- a seat with one number hands on none
  pub split-alone : (hs : List (Holding E A)) → length hs ≤ 1 → (kept hs ≡ hs) × (handed hs ≡ [])
  split-alone [] le = (refl, refl)
  split-alone (h ∷ []) le = let e = least_stays (h ∷ []) h refl in (ap (λ b. cond (not b) (h ∷ []) []) e, ap (λ b. cond b (h ∷ []) []) e)
  split-alone (h ∷ k ∷ ks) le = absurd (omega arith)

module _ (E A : Type 0) where
  pub length-below : (n : ℕ) → length (holdings_below {E = E} {A = A} n) ≡ n
  length-below zero = refl
  length-below (suc n) = omega (arith, length-below n)

  pub times-below_none : (n k : ℕ) → n ≤ k → times k (holdings_below {E = E} {A = A} n) ≡ 0
  times-below_none zero k le = refl
  times-below_none (suc n) k le = times-cons_other k (holding n []) (holdings_below n) (λ e. omega arith) ∙ times-below_none n k (omega arith)

  pub times-below_one : (n k : ℕ) → k < n → times k (holdings_below {E = E} {A = A} n) ≡ 1
  times-below_one zero k lt = absurd (omega arith)
  times-below_one (suc n) k lt = dite (ℕ_discrete n k)
      (λ is. times-cons_same k (holding n []) (holdings_below n) is ∙ ap suc (times-below_none n k (omega arith)))
      (λ other. times-cons_other k (holding n []) (holdings_below n) other ∙ times-below_one n k (omega arith))

  pub AreListed-below : (n : ℕ) → AreListed {E = E} {A = A} [] (holdings_below n)
  AreListed-below zero = tt
  AreListed-below (suc n) = (refl, AreListed-below n)
