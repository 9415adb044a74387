-- Each result that was taken is of its job.
use Rattle.std.proofs.Common.{◌≡◌, ◌≢◌, ◌<◌, ℕ, zero, suc, Bool, true, false, List, [], ◌∷◌, ◌++◌, length, get_or, sym, refl, ap, ◌∙◌, subst, arith, ⊎_elim}
use Rattle.std.specs.List.{Contains, IsDistinct, AllByRecursion}
use Rattle.std.proofs.lemmas.Bool.{cases_order}
use Rattle.std.proofs.lemmas.List.Elements.{Contains-append_left}
use Rattle.std.proofs.lemmas.List.Sorted.{IsPermutation-sym, Contains-permutation}
use Rattle.std.proofs.lemmas.Map.Keys.{IsDistinct-IsPermutation, apart_from_distinct}
use Rattle.decode_pool.specs.Served.{EachMade}
use Rattle.decode_pool.specs.Flow.{KeepsNumber, shares_number, HasDistinctNumbers, EachResultIsOfItsJob}

module _ {J : Type 0} (made : J → J → Type 0) (number : J → ℕ) where
  abbrev shares : J → J → Bool
  shares x y = shares_number made number x y

  flips : (x y : J) → shares x y ≡ shares y x
  flips x y = grind arith

  -- jobs of one number from 1 on share it, and such jobs are one where numbers are distinct
  shares_from : (x y : J) → number x ≡ number y → number x ≢ 0 → shares x y ≡ true
  shares_from x y same n = grind (arith, same, n)

  at_one_place : (jobs : List J) → HasDistinctNumbers made number jobs → (i j : ℕ) (x y : J) → i < length jobs → j < length jobs → get_or jobs i x ≡ x → get_or jobs j y ≡ y
      → number x ≡ number y → number x ≢ 0 → i ≡ j
  at_one_place jobs distinct i j x y lt lt' at at' same n = ⊎_elim
      (λ e. e)
      (λ o. ⊎_elim
      (λ (before : i < j).
      let apart = apart_from_distinct shares jobs i j x distinct before lt' in
      absurd (false_ne (get_or jobs i x) (get_or jobs j x) (sym at) (sym (default jobs j x y lt' at')) apart))
      (λ (behind : j < i).
      let apart = apart_from_distinct shares jobs j i x distinct behind lt in
      absurd (false_ne' (get_or jobs j x) (get_or jobs i x) (sym (default jobs j x y lt' at')) (sym at) apart))
      o)
      (cases_order i j)
    where
      default : (jobs : List J) (j : ℕ) (d y : J) → j < length jobs → get_or jobs j y ≡ y → get_or jobs j d ≡ y
      default [] j d y lt at = absurd (omega arith)
      default (z ∷ jobs) zero d y lt at = at
      default (z ∷ jobs) (suc j) d y lt at = default jobs j d y (omega arith) at

      false_ne : (a b : J) → x ≡ a → y ≡ b → shares a b ≡ false → ⊥
      false_ne a b p q apart = cc (apart, subst (λ (z : J). shares z b ≡ true) p (subst (λ (z : J). shares x z ≡ true) q (shares_from x y same n)))

      false_ne' : (b a : J) → y ≡ b → x ≡ a → shares b a ≡ false → ⊥
      false_ne' b a q p apart = false_ne a b p q (flips a b ∙ apart)

  one_job : (jobs : List J) → HasDistinctNumbers made number jobs → (x y : J) → Contains jobs x → Contains jobs y → number x ≡ number y → number x ≢ 0 → y ≡ x
  one_job jobs distinct x y here there same n =
      let place = at_one_place jobs distinct here.0 there.0 x y here.1 there.1 here.2 there.2 same n in
      sym there.2 ∙ ap (λ (k : ℕ). get_or jobs k y) (sym place) ∙ value jobs here.0 x y here.1 here.2
    where
      value : (jobs : List J) (k : ℕ) (x d : J) → k < length jobs → get_or jobs k x ≡ x → get_or jobs k d ≡ x
      value [] k x d lt at = absurd (omega arith)
      value (z ∷ jobs) zero x d lt at = at
      value (z ∷ jobs) (suc k) x d lt at = value jobs k x d (omega arith) at

  -- the job at a result's place
  record Origin (worked : List J) (result : J) : Type 0 where
    job : J
    there : Contains worked job
    is_made : made job result
    not_zero : number job ≢ 0

  contains_tail : (x : J) (xs : List J) (y : J) → Contains xs y → Contains (x ∷ xs) y
  contains_tail x xs y c = (suc c.0, omega (arith, c.1), c.2)

  origin : (worked given : List J) (result : J) → EachMade made number worked given → Contains given result → Origin worked result
  origin [] [] result each c = absurd (omega (arith, c.1))
  origin [] (y ∷ given) result each c = absurd each
  origin (x ∷ worked) [] result each c = absurd each
  origin (x ∷ worked) (y ∷ given) result each (zero, lt, at) =
      record { job = x; there = (zero, omega arith, refl); is_made = subst (λ (z : J). made x z) at each.0; not_zero = each.1 }
  origin (x ∷ worked) (y ∷ given) result each (suc k, lt, at) =
      let o = origin worked given result each.2 (k, omega (arith, lt), at) in
      record { job = o.job; there = contains_tail x worked o.job o.there; is_made = o.is_made; not_zero = o.not_zero }

  -- the front of a list with distinct numbers has them too
  all_front : (P : J → Type 0) (xs ys : List J) → AllByRecursion P (xs ++ ys) → AllByRecursion P xs
  all_front P [] ys all = tt
  all_front P (x ∷ xs) ys all = (all.0, all_front P xs ys all.1)

  distinct_front : (xs ys : List J) → HasDistinctNumbers made number (xs ++ ys) → HasDistinctNumbers made number xs
  unfolding IsDistinct
  distinct_front [] ys distinct = tt
  distinct_front (x ∷ xs) ys distinct = (all_front (λ y. shares x y ≡ false) xs ys distinct.0, distinct_front xs ys distinct.1)

  -- and so have the results
  apart_results : KeepsNumber made number → (job result : J) (worked given : List J) → number result ≡ number job → EachMade made number worked given
      → AllByRecursion (λ other. shares job other ≡ false) worked → AllByRecursion (λ other. shares result other ≡ false) given
  apart_results keeps job result [] [] same each all = tt
  apart_results keeps job result [] (y ∷ given) same each all = absurd each
  apart_results keeps job result (x ∷ worked) [] same each all = absurd each
  apart_results keeps job result (x ∷ worked) (y ∷ given) same each all =
      (rw (same, keeps x y each.0) all.0, apart_results keeps job result worked given same each.2 all.1)

  distinct_results : KeepsNumber made number → (worked given : List J) → EachMade made number worked given → HasDistinctNumbers made number worked → HasDistinctNumbers made number given
  unfolding IsDistinct
  distinct_results keeps [] [] each distinct = tt
  distinct_results keeps [] (y ∷ given) each distinct = absurd each
  distinct_results keeps (x ∷ worked) [] each distinct = absurd each
  distinct_results keeps (x ∷ worked) (y ∷ given) each distinct =
      (apart_results keeps x y worked given (keeps x y each.0) each.2 distinct.0, distinct_results keeps worked given each.2 distinct.1)

  pub each_is_of_its_job : EachResultIsOfItsJob made number
  each_is_of_its_job keeps put taken flows distinct =
      let moved = IsDistinct-IsPermutation shares flips put (flows.worked ++ flows.others) flows.jobs distinct in
      let worked = distinct_front flows.worked flows.others moved in
      let given = distinct_results keeps flows.worked flows.given flows.each worked in
      let parts = IsDistinct-IsPermutation shares flips flows.given (taken ++ flows.left) flows.results given in (
        (λ result there.
            let was_given = Contains-permutation (taken ++ flows.left) flows.given result (IsPermutation-sym flows.given (taken ++ flows.left) flows.results) (Contains-append_left taken flows.left result there) in
            let from = origin flows.worked flows.given result flows.each was_given in
            let put_there = Contains-permutation (flows.worked ++ flows.others) put from.job (IsPermutation-sym put (flows.worked ++ flows.others) flows.jobs) (Contains-append_left flows.worked flows.others from.job from.there) in
            let same = keeps from.job result from.is_made in
            record {
              job = from.job;
              was_put = put_there;
              same_number = same;
              not_zero = from.not_zero;
              is_made = from.is_made;
              alone = λ other o e. one_job put distinct from.job other put_there o (sym (e ∙ same)) from.not_zero;
            }),
        distinct_front taken flows.left parts,
      )
