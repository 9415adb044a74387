-- Sums and joined lists of all accounts, when one account changes.
use Rattle.std.proofs.Common.{◌≡◌, ◌≢◌, ℕ, zero, suc, ◌+◌, ◌≤◌, List, [], ◌∷◌, ◌++◌, set, sym, refl, ap, ◌∙◌, subst, append_assoc, append-nil, IsPermutation, arith}
use mathlib.Core.Option.{some, some-ne-none, some-injective}
use lib.ListN.{get_elem?}
use Rattle.std.proofs.lemmas.List.Sorted.{IsPermutation-refl, IsPermutation-trans, IsPermutation-append_comm, IsPermutation-append_left, IsPermutation-append_right}
use Rattle.work_queue.specs.declared.account.Account.{Account}
use Rattle.work_queue.specs.Accounts.{listed, total, IdleIsEmpty}

module _ {J : Type 0} where
  -- a list is its own permutation, and so is one that is equal to it
  pub same_list : (xs ys : List J) → xs ≡ ys → IsPermutation xs ys
  same_list xs ys e = subst (λ (l : List J). IsPermutation xs l) e (IsPermutation-refl xs)

  pub chain : (xs ys zs : List J) → IsPermutation xs ys → IsPermutation ys zs → IsPermutation xs zs
  chain xs ys zs a b = IsPermutation-trans xs ys zs a b

  -- a sum when one account becomes another, or joins at the end
  pub total-set : (part : Account J → ℕ) (accounts : List (Account J)) (place : ℕ) (a b : Account J) → get_elem? accounts place ≡ some a
      → total part (set accounts place b) + part a ≡ total part accounts + part b
  total-set part [] place a b at = absurd (some-ne-none a (sym at))
  total-set part (c ∷ accounts) zero a b at = let e = ap part (some-injective c a at) in omega arith
  total-set part (c ∷ accounts) (suc place) a b at = let e = total-set part accounts place a b at in omega arith

  pub total-push : (part : Account J → ℕ) (accounts : List (Account J)) (b : Account J) → total part (accounts ++ b ∷ []) ≡ total part accounts + part b
  total-push part [] b = omega arith
  total-push part (c ∷ accounts) b = omega (arith, total-push part accounts b)

  -- one account's part is at most the sum
  pub part_le : (part : Account J → ℕ) (accounts : List (Account J)) (place : ℕ) (a : Account J) → get_elem? accounts place ≡ some a → part a ≤ total part accounts
  part_le part [] place a at = absurd (some-ne-none a (sym at))
  part_le part (c ∷ accounts) zero a at = let e = ap part (some-injective c a at) in omega arith
  part_le part (c ∷ accounts) (suc place) a at = let e = part_le part accounts place a at in omega arith

  -- one account's list grows at its end
  pub listed-grown : (part : Account J → List J) (accounts : List (Account J)) (place : ℕ) (a b : Account J) (more : List J) → get_elem? accounts place ≡ some a → part b ≡ part a ++ more
      → IsPermutation (listed part (set accounts place b)) (listed part accounts ++ more)
  listed-grown part [] place a b more at is = absurd (some-ne-none a (sym at))
  listed-grown part (c ∷ accounts) zero a b more at is =
      let e : part c ≡ part a = ap part (some-injective c a at) in
      let rest : List J = listed part accounts in
      chain (part b ++ rest) (part c ++ (more ++ rest)) ((part c ++ rest) ++ more)
      (same_list (part b ++ rest) (part c ++ (more ++ rest)) (ap (λ l. l ++ rest) (is ∙ ap (λ l. l ++ more) (sym e)) ∙ append_assoc (part c) more rest))
      (chain (part c ++ (more ++ rest)) (part c ++ (rest ++ more)) ((part c ++ rest) ++ more)
      (IsPermutation-append_right (part c) (more ++ rest) (rest ++ more) (IsPermutation-append_comm more rest))
      (same_list (part c ++ (rest ++ more)) ((part c ++ rest) ++ more) (sym (append_assoc (part c) rest more))))
  listed-grown part (c ∷ accounts) (suc place) a b more at is =
      let changed : List J = listed part (set accounts place b) in
      let rest : List J = listed part accounts in
      chain (part c ++ changed) (part c ++ (rest ++ more)) ((part c ++ rest) ++ more)
      (IsPermutation-append_right (part c) changed (rest ++ more) (listed-grown part accounts place a b more at is))
      (same_list (part c ++ (rest ++ more)) ((part c ++ rest) ++ more) (sym (append_assoc (part c) rest more)))

  -- one account's list stays
  pub listed-kept : (part : Account J → List J) (accounts : List (Account J)) (place : ℕ) (a b : Account J) → get_elem? accounts place ≡ some a → part b ≡ part a
      → listed part (set accounts place b) ≡ listed part accounts
  listed-kept part [] place a b at is = absurd (some-ne-none a (sym at))
  listed-kept part (c ∷ accounts) zero a b at is = ap (λ l. l ++ listed part accounts) (is ∙ ap part (sym (some-injective c a at)))
  listed-kept part (c ∷ accounts) (suc place) a b at is = ap (λ l. part c ++ l) (listed-kept part accounts place a b at is)

  -- an account with an empty list joins at the end
  pub listed-push : (part : Account J → List J) (accounts : List (Account J)) (b : Account J) → part b ≡ [] → listed part (accounts ++ b ∷ []) ≡ listed part accounts
  listed-push part [] b is = ap (λ l. l ++ []) is
  listed-push part (c ∷ accounts) b is = ap (λ l. part c ++ l) (listed-push part accounts b is)

  -- one account's list is put in front, and the account is emptied
  listed-emptied : (part : Account J → List J) (accounts : List (Account J)) (place : ℕ) (a none : Account J) → get_elem? accounts place ≡ some a → part none ≡ []
      → IsPermutation (part a ++ listed part (set accounts place none)) (listed part accounts)
  listed-emptied part [] place a none at is = absurd (some-ne-none a (sym at))
  listed-emptied part (c ∷ accounts) zero a none at is =
      same_list (part a ++ (part none ++ listed part accounts)) (part c ++ listed part accounts)
      (ap (λ l. part a ++ (l ++ listed part accounts)) is ∙ ap (λ l. l ++ listed part accounts) (ap part (sym (some-injective c a at))))
  listed-emptied part (c ∷ accounts) (suc place) a none at is =
      let rest : List J = listed part (set accounts place none) in
      chain (part a ++ (part c ++ rest)) (part c ++ (part a ++ rest)) (part c ++ listed part accounts)
      (chain (part a ++ (part c ++ rest)) ((part a ++ part c) ++ rest) (part c ++ (part a ++ rest))
      (same_list (part a ++ (part c ++ rest)) ((part a ++ part c) ++ rest) (sym (append_assoc (part a) (part c) rest)))
      (chain ((part a ++ part c) ++ rest) ((part c ++ part a) ++ rest) (part c ++ (part a ++ rest))
      (IsPermutation-append_left rest (part a ++ part c) (part c ++ part a) (IsPermutation-append_comm (part a) (part c)))
      (same_list ((part c ++ part a) ++ rest) (part c ++ (part a ++ rest)) (append_assoc (part c) (part a) rest))))
      (IsPermutation-append_right (part c) (part a ++ rest) (listed part accounts) (listed-emptied part accounts place a none at is))

  -- one account takes in another's list, and the other is emptied
  pub listed-joined : (part : Account J → List J) (accounts : List (Account J)) (place other : ℕ) (a b both none : Account J)
      → get_elem? accounts place ≡ some a → get_elem? accounts other ≡ some b → place ≢ other → part both ≡ part a ++ part b → part none ≡ []
      → IsPermutation (listed part (set (set accounts place both) other none)) (listed part accounts)
  listed-joined part [] place other a b both none at at' two is gone = absurd (some-ne-none a (sym at))
  listed-joined part (c ∷ accounts) zero zero a b both none at at' two is gone = absurd (two refl)
  listed-joined part (c ∷ accounts) zero (suc other) a b both none at at' two is gone =
      let rest : List J = listed part (set accounts other none) in
      let e : part c ≡ part a = ap part (some-injective c a at) in
      chain (part both ++ rest) (part c ++ (part b ++ rest)) (part c ++ listed part accounts)
      (same_list (part both ++ rest) (part c ++ (part b ++ rest)) (ap (λ l. l ++ rest) (is ∙ ap (λ l. l ++ part b) (sym e)) ∙ append_assoc (part c) (part b) rest))
      (IsPermutation-append_right (part c) (part b ++ rest) (listed part accounts) (listed-emptied part accounts other b none at' gone))
  listed-joined part (c ∷ accounts) (suc place) zero a b both none at at' two is gone =
      let grown : List J = listed part (set accounts place both) in
      let rest : List J = listed part accounts in
      let e : part c ≡ part b = ap part (some-injective c b at') in
      chain (part none ++ grown) (rest ++ part b) (part c ++ rest)
      (chain (part none ++ grown) grown (rest ++ part b) (same_list (part none ++ grown) grown (ap (λ l. l ++ grown) gone)) (listed-grown part accounts place a both (part b) at is))
      (chain (rest ++ part b) (part b ++ rest) (part c ++ rest) (IsPermutation-append_comm rest (part b)) (same_list (part b ++ rest) (part c ++ rest) (ap (λ l. l ++ rest) (sym e))))
  listed-joined part (c ∷ accounts) (suc place) (suc other) a b both none at at' two is gone =
      IsPermutation-append_right (part c) (listed part (set (set accounts place both) other none)) (listed part accounts)
      (listed-joined part accounts place other a b both none at at' (λ e. two (ap suc e)) is gone)

  -- where no account has a share, none lists anything
  listed-idle : (part : Account J → List J) → ((a : Account J) → (a.put ≡ []) × (a.got ≡ []) → part a ≡ []) → (accounts : List (Account J)) → IdleIsEmpty accounts
      → total (λ a. a.shares) accounts ≡ 0 → listed part accounts ≡ []
  listed-idle part empty [] idle none = refl
  listed-idle part empty (c ∷ accounts) idle none =
      ap (λ l. l ++ listed part accounts) (empty c (idle zero c refl (omega arith))) ∙ listed-idle part empty accounts (λ place a at. idle (suc place) a at) (omega arith)

  -- where one account has all the shares, the others list nothing
  pub listed-alone : (part : Account J → List J) → ((a : Account J) → (a.put ≡ []) × (a.got ≡ []) → part a ≡ []) → (accounts : List (Account J)) (place : ℕ) (a : Account J)
      → IdleIsEmpty accounts → get_elem? accounts place ≡ some a → total (λ b. b.shares) accounts ≡ a.shares → listed part accounts ≡ part a
  listed-alone part empty [] place a idle at all = absurd (some-ne-none a (sym at))
  listed-alone part empty (c ∷ accounts) zero a idle at all =
      let is = some-injective c a at in
      let e = ap (λ (b : Account J). b.shares) is in
      ap (λ l. part c ++ l) (listed-idle part empty accounts (λ place b at'. idle (suc place) b at') (omega arith)) ∙ (append-nil (part c) ∙ ap part is)
  listed-alone part empty (c ∷ accounts) (suc place) a idle at all =
      let le = part_le (λ b. b.shares) accounts place a at in
      ap (λ l. l ++ listed part accounts) (empty c (idle zero c refl (omega arith))) ∙ listed-alone part empty accounts place a (λ p b at'. idle (suc p) b at') at (omega arith)
