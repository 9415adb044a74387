-- What the workers of a pool did, as the accounts of their passes show it.
use Rattle.std.specs.Prelude.{◌≡◌, ◌≢◌, ℕ, List, [], ◌∷◌, ◌++◌}
use Rattle.work_queue.specs.declared.account.Account.{Account}
use Rattle.work_queue.specs.declared.queue.Queue.{Queue}
use Rattle.work_queue.specs.declared.queue.Pass.{Pass}
use Rattle.work_queue.specs.Accounts.{account, with_got}
use Rattle.work_queue.specs.Passes.{account_of, IsOf}

module _ {J : Type 0} (made : J → J → Type 0) (number : J → ℕ) where
  -- each result is made of the job at its place, whose number isn't 0
  abbrev pub EachMade : List J → List J → Type 0
  EachMade [] [] = Unit {0}
  EachMade [] (result ∷ given) = ⊥
  EachMade (job ∷ worked) [] = ⊥
  EachMade (job ∷ worked) (result ∷ given) = made job result × (number job ≢ 0) × EachMade worked given

  -- a worker got these jobs and put a result for each: the accounts of its two passes before, and after
  abbrev pub Works : Account J → Account J → Account J → Account J → Type 0
  Works jobs results jobs' results' =
      (worked : List J) × (given : List J) × EachMade worked given × (jobs' ≡ account jobs.shares jobs.put (jobs.got ++ worked))
      × (results' ≡ account results.shares (results.put ++ given) results.got)

  -- and at last it got a job of number 0
  abbrev pub Serves : Account J → Account J → Account J → Account J → Type 0
  Serves jobs results jobs' results' = (middle : Account J) × (last : J) × Works jobs results middle results' × (jobs' ≡ with_got middle last)
      × (number last ≡ 0)

module _ {J : Type 0} (jobs results : Queue J) where
  -- for each worker in turn a pass of the jobs, and then a pass of the results
  abbrev pub Ready : List (Pass J) → Type 0
  Ready [] = Unit {0}
  Ready (taken ∷ []) = ⊥
  Ready (taken ∷ given ∷ passes) = IsOf jobs taken × IsOf results given × Ready passes

  -- each worker did its part
  abbrev pub AllServe : (J → J → Type 0) → (J → ℕ) → List (Pass J) → List (Pass J) → Type 0
  AllServe made number [] [] = Unit {0}
  AllServe made number (taken ∷ given ∷ passes) (taken' ∷ given' ∷ passes') =
      IsOf jobs taken' × IsOf results given' × Serves made number (account_of taken) (account_of given) (account_of taken') (account_of given')
      × AllServe made number passes passes'
  AllServe made number [] (taken' ∷ passes') = ⊥
  AllServe made number (taken ∷ []) passes' = ⊥
  AllServe made number (taken ∷ given ∷ passes) [] = ⊥
  AllServe made number (taken ∷ given ∷ passes) (taken' ∷ []) = ⊥
