-- Each move keeps the rule of a queue.
use Rattle.std.proofs.Common.{◌≡◌, ℕ, zero, suc, ◌<◌, List, [], ◌∷◌, ◌++◌, set, sym, refl, ap, ◌∙◌, subst, ⊎_elim, append_assoc, IsPermutation, arith}
use mathlib.Core.Option.{some, some-ne-none, some-injective}
use lib.ListN.{get_elem?}
use Rattle.std.proofs.lemmas.List.Sorted.{IsPermutation-refl, IsPermutation-sym, IsPermutation-append_left}
use Rattle.crossbeam_queue.specs.Fifo.{Pushes, Pops, Forks, Merges, Learns}
use Rattle.crossbeam_queue.proofs.Lists.{at_set, at_snoc}
use Rattle.work_queue.specs.declared.account.Account.{Account}
use Rattle.work_queue.specs.Accounts.{whole, spent, one_share, one_share_less, joined, with_put, with_got, MayHold, listed, IdleIsEmpty, Balanced}
use Rattle.work_queue.proofs.Lists.{same_list, chain, total-set, total-push, listed-grown, listed-kept, listed-push, listed-joined, listed-alone}

module _ {J : Type 0} where
  abbrev put_of : Account J → List J
  put_of a = a.put

  abbrev got_of : Account J → List J
  got_of a = a.got

  abbrev shares_of : Account J → ℕ
  shares_of a = a.shares

  -- an account that has a share, or lists nothing
  abbrev IsIdleEmpty : Account J → Type 0
  IsIdleEmpty a = a.shares ≡ 0 → (a.put ≡ []) × (a.got ≡ [])

  idle_set : (accounts : List (Account J)) (place : ℕ) (a : Account J) → IsIdleEmpty a → IdleIsEmpty accounts → IdleIsEmpty (set accounts place a)
  idle_set accounts place a mine old j b at none = ⊎_elim
      (λ (x : (j ≡ place) × (a ≡ b)). subst (λ (y : Account J). IsIdleEmpty y) x.1 mine none)
      (λ x. old j b x.1 none)
      (at_set accounts place j a b at)

  idle_push : (accounts : List (Account J)) (a : Account J) → IsIdleEmpty a → IdleIsEmpty accounts → IdleIsEmpty (accounts ++ a ∷ [])
  idle_push accounts a mine old j b at none = ⊎_elim
      (λ x. old j b x none)
      (λ (is : a ≡ b). subst (λ (y : Account J). IsIdleEmpty y) is mine none)
      (at_snoc accounts a b j at)

  first_of_one : (a : Account J) (place : ℕ) (b : Account J) → get_elem? (a ∷ []) place ≡ some b → a ≡ b
  first_of_one a zero b at = some-injective a b at
  first_of_one a (suc place) b at = absurd (some-ne-none b (sym at))

  pub begins : Balanced [] (whole {J = J} ∷ [])
  begins =
      let start : Account J = whole in
      (omega arith, IsPermutation-refl [], λ place a at none. let e = ap shares_of (first_of_one start place a at) in absurd (omega arith))

  pub puts : (room place : ℕ) (a : Account J) (job : J) → 0 < a.shares → Pushes Balanced room place a job (λ b. b ≡ with_put a job)
  puts room place a job has_share jobs accounts short kept at =
      let b : Account J = with_put a job in
      let after : List (Account J) = set accounts place b in
      let put : List J = listed put_of accounts in
      let got : List J = listed got_of accounts in (
        b,
        (
          (let s = total-set shares_of accounts place a b at in let k = kept.0 in omega arith),
          chain (listed put_of after) (put ++ job ∷ []) (listed got_of after ++ (jobs ++ job ∷ [])) (listed-grown put_of accounts place a b (job ∷ []) at refl)
              (chain (put ++ job ∷ []) ((got ++ jobs) ++ job ∷ []) (listed got_of after ++ (jobs ++ job ∷ [])) (IsPermutation-append_left (job ∷ []) put (got ++ jobs) kept.1)
              (same_list ((got ++ jobs) ++ job ∷ []) (listed got_of after ++ (jobs ++ job ∷ []))
              (append_assoc got jobs (job ∷ []) ∙ ap (λ l. l ++ (jobs ++ job ∷ [])) (sym (listed-kept got_of accounts place a b at refl))))),
          idle_set accounts place b (λ none. absurd (omega arith)) kept.2,
        ),
        refl,
      )

  pub gets : (place : ℕ) (a : Account J) → 0 < a.shares → Pops Balanced place a (λ job b. b ≡ with_got a job)
  gets place a has_share job jobs accounts kept at =
      let b : Account J = with_got a job in
      let after : List (Account J) = set accounts place b in
      let put : List J = listed put_of accounts in
      let got : List J = listed got_of accounts in (
        b,
        (
          (let s = total-set shares_of accounts place a b at in let k = kept.0 in omega arith),
          chain (listed put_of after) put (listed got_of after ++ jobs) (same_list (listed put_of after) put (listed-kept put_of accounts place a b at refl))
              (chain put (got ++ (job ∷ jobs)) (listed got_of after ++ jobs) kept.1
              (chain (got ++ (job ∷ jobs)) ((got ++ job ∷ []) ++ jobs) (listed got_of after ++ jobs)
              (same_list (got ++ (job ∷ jobs)) ((got ++ job ∷ []) ++ jobs) (sym (append_assoc got (job ∷ []) jobs)))
              (IsPermutation-append_left jobs (got ++ job ∷ []) (listed got_of after)
              (IsPermutation-sym (listed got_of after) (got ++ job ∷ []) (listed-grown got_of accounts place a b (job ∷ []) at refl))))),
          idle_set accounts place b (λ none. absurd (omega arith)) kept.2,
        ),
        refl,
      )

  pub splits : (place : ℕ) (a : Account J) → 1 < a.shares → Forks Balanced place a (one_share_less a) one_share
  splits place a two jobs accounts kept at =
      let b : Account J = one_share_less a in
      let new : Account J = one_share in
      let after : List (Account J) = set accounts place b in (
        (let s = total-set shares_of accounts place a b at in let t = total-push shares_of after new in let k = kept.0 in omega arith),
        (let p : listed put_of (after ++ new ∷ []) ≡ listed put_of accounts = listed-push put_of after new refl ∙ listed-kept put_of accounts place a b at refl in
            let q : listed got_of (after ++ new ∷ []) ≡ listed got_of accounts = listed-push got_of after new refl ∙ listed-kept got_of accounts place a b at refl in
            subst (λ (lists : List J × List J). IsPermutation lists.0 (lists.1 ++ jobs)) (λ i. (sym p i, sym q i)) kept.1),
        idle_push after new (λ none. absurd (omega arith)) (idle_set accounts place b (λ none. absurd (omega arith)) kept.2),
      )

  both_empty : (xs ys : List J) → xs ≡ [] → ys ≡ [] → xs ++ ys ≡ []
  both_empty xs ys p q = subst (λ (l : List J). l ++ ys ≡ []) (sym p) q

  pub joins : (place : ℕ) (a : Account J) (other : ℕ) (b : Account J) → Merges Balanced place a other b (joined a b) spent
  joins place a other b jobs accounts kept at two at' =
      let both : Account J = joined a b in
      let none : Account J = spent in
      let middle : List (Account J) = set accounts place both in
      let after : List (Account J) = set middle other none in
      let was : get_elem? accounts other ≡ some b = ⊎_elim (λ x. absurd (two x.0)) (λ x. x.1) (at_set accounts place other both b at') in
      let put : List J = listed put_of accounts in
      let got : List J = listed got_of accounts in (
        (let s = total-set shares_of accounts place a both at in let t = total-set shares_of middle other b none at' in let k = kept.0 in omega arith),
        (let p = listed-joined put_of accounts place other a b both none at was (λ e. two (sym e)) refl refl in
            let q = listed-joined got_of accounts place other a b both none at was (λ e. two (sym e)) refl refl in
            chain (listed put_of after) put (listed got_of after ++ jobs) p
            (chain put (got ++ jobs) (listed got_of after ++ jobs) kept.1
            (IsPermutation-append_left jobs got (listed got_of after) (IsPermutation-sym (listed got_of after) got q)))),
        idle_set middle other none (λ _. (refl, refl))
            (idle_set accounts place both
            (λ e. let x = kept.2 place a at (omega arith) in let y = kept.2 other b was (omega arith) in (both_empty a.put b.put x.0 y.0, both_empty a.got b.got x.1 y.1)) kept.2),
      )

  pub tells : (place : ℕ) (a : Account J) → Learns Balanced place a (MayHold a)
  tells place a jobs accounts kept at all =
      let p = listed-alone put_of (λ b e. e.0) accounts place a kept.2 at (kept.0 ∙ sym all) in
      let q = listed-alone got_of (λ b e. e.1) accounts place a kept.2 at (kept.0 ∙ sym all) in
      subst (λ (lists : List J × List J). IsPermutation lists.0 (lists.1 ++ jobs)) (λ i. (p i, q i)) kept.1
