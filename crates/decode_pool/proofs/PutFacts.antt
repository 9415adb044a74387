-- Jobs with rising numbers, and ends among them.
use Rattle.std.proofs.Common.{cond, ◌≡◌, ◌≢◌, ◌<◌, ◌≤◌, ◌==◌, ◌&&◌, not, ℕ, zero, suc, Bool, true, false, List, [], ◌∷◌, ◌++◌, refl, sym, ap, ◌∙◌, ◌+◌, append-nil, subst, arith, ⊎_elim}
use Rattle.std.specs.List.{All, AllPairs, AllByRecursion, Contains, IsDistinct}
use Rattle.std.proofs.lemmas.Bool.{cases_eq}
use Rattle.std.proofs.lemmas.List.Elements.{All-append, All-cons, All-head, All-nil, All-tail, filter-append}
use Rattle.std.proofs.lemmas.List.Kept.{AllPairs-cons}
use Rattle.decode_pool.specs.Flow.{shares_number}
use Rattle.decode_pool.specs.Joins.{NumbersRise, PutsJobs, jobs_among}

module _ {J : Type 0} where
  -- what holds of all that a filter keeps
  kept_all : (P : J → Type 0) (keep : Bool) (x : J) (xs : List J) → All P (cond keep (x ∷ xs) xs) → (keep ≡ true → P x) × All P xs
  kept_all P true x xs all = (λ e. All-head P x xs all, All-tail P x xs all)
  kept_all P false x xs all = (λ e. absurd (cc e), all)

  kept_pairs : (R : J → J → Type 0) (keep : Bool) (x : J) (xs : List J) → AllPairs R (cond keep (x ∷ xs) xs) → (keep ≡ true → All (R x) xs) × AllPairs R xs
  kept_pairs R true x xs pairs = (λ e k d lt. pairs zero (suc k) d (omega arith) (omega (arith, lt)), λ i j d lt within. pairs (suc i) (suc j) d (omega (arith, lt)) (omega (arith, within)))
  kept_pairs R false x xs pairs = (λ e. absurd (cc e), pairs)

  -- one more at the end
  pairs_push : (R : J → J → Type 0) (xs : List J) (y : J) → AllPairs R xs → All (λ x. R x y) xs → AllPairs R (xs ++ y ∷ [])
  pairs_push R [] y pairs last = λ i j d lt within. absurd (omega (arith, lt, within))
  pairs_push R (x ∷ xs) y pairs last =
      let parts = kept_pairs R true x xs pairs in
      AllPairs-cons R x (xs ++ y ∷ []) (All-append (R x) xs (y ∷ []) (parts.0 refl) (All-cons (R x) y [] (All-head (λ z. R z y) x xs last) (All-nil (R x))))
      (pairs_push R xs y parts.1 (All-tail (λ z. R z y) x xs last))

module _ {J : Type 0} (number : J → ℕ) where
  abbrev is_job : J → Bool
  is_job cell = not (number cell == 0)

  -- each job that was put is such a job
  pub such_job : (IsSuch : J → Type 0) (put : List J) (job : J) → All IsSuch (jobs_among number put) → Contains put job → number job ≢ 0 → IsSuch job
  such_job IsSuch [] job each there isnt = absurd (omega (arith, there.1))
  such_job IsSuch (x ∷ put) job each (zero, lt, at) isnt =
      let here : number x ≢ 0 = subst (λ (z : J). number z ≢ 0) (sym at) isnt in
      let kept : is_job x ≡ true = grind (arith, here) in
      subst IsSuch at ((kept_all IsSuch (is_job x) x (jobs_among number put) each).0 kept)
  such_job IsSuch (x ∷ put) job each (suc k, lt, at) isnt = such_job IsSuch put job (kept_all IsSuch (is_job x) x (jobs_among number put) each).1 (k, omega (arith, lt), at) isnt

  -- before anything is put
  pub puts_nothing : (IsSuch : J → Type 0) → PutsJobs number IsSuch [] 1
  puts_nothing IsSuch = record { rise = λ i j d lt within. absurd (omega (arith, within)); below = All-nil (λ job. number job < 1); each = All-nil IsSuch }

  -- one more job, whose number isn't below the limit
  pub puts_job : (IsSuch : J → Type 0) (put : List J) (limit : ℕ) (job : J) → PutsJobs number IsSuch put limit → limit ≤ number job → number job ≢ 0 → IsSuch job
      → PutsJobs number IsSuch (put ++ job ∷ []) (number job + 1)
  puts_job IsSuch put limit job puts le isnt is =
      let kept : is_job job ≡ true = grind (arith, isnt) in
      let all : jobs_among number (put ++ job ∷ []) ≡ jobs_among number put ++ job ∷ [] = filter-append is_job put (job ∷ []) ∙ ap (λ (b : Bool). jobs_among number put ++ cond b (job ∷ []) []) kept in
      let under : All (λ x. number x < number job) (jobs_among number put) = λ k d lt. let at = puts.below k d lt in omega (arith, at, le) in
      let low : All (λ x. number x < number job + 1) (jobs_among number put) = λ k d lt. let at = puts.below k d lt in omega (arith, at, le) in
      record {
        rise = subst (λ l. AllPairs (λ x later. number x < number later) l) (sym all) (pairs_push (λ x later. number x < number later) (jobs_among number put) job puts.rise under);
        below =
            subst (λ l. All (λ x. number x < number job + 1) l) (sym all)
            (All-append (λ x. number x < number job + 1) (jobs_among number put) (job ∷ []) low (All-cons (λ x. number x < number job + 1) job [] (omega arith) (All-nil (λ x. number x < number job + 1))));
        each = subst (λ l. All IsSuch l) (sym all) (All-append IsSuch (jobs_among number put) (job ∷ []) puts.each (All-cons IsSuch job [] is (All-nil IsSuch)));
      }

  -- one more end
  pub puts_end : (IsSuch : J → Type 0) (put : List J) (limit : ℕ) (end : J) → PutsJobs number IsSuch put limit → number end ≡ 0 → PutsJobs number IsSuch (put ++ end ∷ []) limit
  puts_end IsSuch put limit end puts is =
      let dropped : is_job end ≡ false = grind (arith, is) in
      let all : jobs_among number (put ++ end ∷ []) ≡ jobs_among number put =
      filter-append is_job put (end ∷ []) ∙ ap (λ (b : Bool). jobs_among number put ++ cond b (end ∷ []) []) dropped ∙ append-nil (jobs_among number put) in
      record {
        rise = subst (λ l. AllPairs (λ x later. number x < number later) l) (sym all) puts.rise;
        below = subst (λ l. All (λ x. number x < limit) l) (sym all) puts.below;
        each = subst (λ l. All IsSuch l) (sym all) puts.each;
      }

  -- a limit further on
  pub puts_further : (IsSuch : J → Type 0) (put : List J) (limit further : ℕ) → PutsJobs number IsSuch put limit → limit ≤ further → PutsJobs number IsSuch put further
  puts_further IsSuch put limit further puts le = record { rise = puts.rise; below = λ k d lt. let at = puts.below k d lt in omega (arith, at, le); each = puts.each }

module _ {J : Type 0} (made : J → J → Type 0) (number : J → ℕ) where
  abbrev shares : J → J → Bool
  shares = shares_number made number

  apart_end : (n m : ℕ) → n ≡ 0 → ((n == m) && not (n == 0)) ≡ false
  apart_end n m e = grind (arith, e)

  apart_from_end : (n m : ℕ) → m ≡ 0 → ((n == m) && not (n == 0)) ≡ false
  apart_from_end n m e = grind (arith, e)

  apart_below : (n m : ℕ) → n < m → ((n == m) && not (n == 0)) ≡ false
  apart_below n m lt = grind (arith, lt)

  -- where numbers rise, a job shares its number with no later one
  apart : (x : J) (put : List J) → (is_job number x ≡ true → All (λ later. number x < number later) (jobs_among number put)) → AllByRecursion (λ y. shares x y ≡ false) put
  apart x [] above = tt
  apart x (y ∷ put) above =
      let kept : is_job number x ≡ true → (is_job number y ≡ true → number x < number y) × All (λ later. number x < number later) (jobs_among number put) =
      λ e. kept_all (λ later. number x < number later) (is_job number y) y (jobs_among number put) (above e) in (
        ⊎_elim
            (λ (zero_x : number x ≡ 0). apart_end (number x) (number y) zero_x)
            (λ (some_x : number x ≡ 0 → ⊥). ⊎_elim
            (λ (zero_y : number y ≡ 0). apart_from_end (number x) (number y) zero_y)
            (λ (some_y : number y ≡ 0 → ⊥). apart_below (number x) (number y) ((kept (grind (arith, some_x))).0 (grind (arith, some_y))))
            (cases_eq (number y) 0))
            (cases_eq (number x) 0),
        apart x put (λ e. (kept e).1),
      )

  pub distinct : (put : List J) → NumbersRise number put → IsDistinct shares put
  unfolding IsDistinct
  distinct [] rise = tt
  distinct (x ∷ put) rise =
      let parts = kept_pairs (λ y later. number y < number later) (is_job number x) x (jobs_among number put) rise in
      (apart x put parts.0, distinct put parts.1)
