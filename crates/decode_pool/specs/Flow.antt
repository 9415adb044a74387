-- The way of jobs through a pool, over the lists of all passes.
use Rattle.std.specs.Prelude.{◌≡◌, ◌≢◌, ◌==◌, ◌&&◌, not, ℕ, Bool, List, [], ◌∷◌, ◌++◌, IsPermutation}
use Rattle.std.specs.List.{All, Contains, IsDistinct}
use Rattle.work_queue.specs.declared.queue.Queue.{Queue}
use Rattle.work_queue.specs.declared.queue.Pass.{Pass}
use Rattle.work_queue.specs.Passes.{account_of}
use Rattle.decode_pool.specs.Served.{EachMade, AllServe}

-- the jobs that all workers got, where their passes stand as for `serve`
abbrev pub jobs_got : {J : Type 0} → List (Pass J) → List J
jobs_got [] = []
jobs_got (taken ∷ []) = []
jobs_got (taken ∷ given ∷ passes) = (account_of taken).got ++ jobs_got passes

-- the results that all workers put
abbrev pub results_put : {J : Type 0} → List (Pass J) → List J
results_put [] = []
results_put (taken ∷ []) = []
results_put (taken ∷ given ∷ passes) = (account_of given).put ++ results_put passes

module _ {J : Type 0} (made : J → J → Type 0) (number : J → ℕ) where
  -- workers keep the numbers of cells
  abbrev pub KeepsNumber : Type 0
  KeepsNumber = (job result : J) → made job result → number result ≡ number job

  -- both have this number, and it isn't 0
  abbrev pub shares_number : J → J → Bool
  shares_number job other = (number job == number other) && not (number job == 0)

  -- numbers from 1 on are distinct
  abbrev pub HasDistinctNumbers : List J → Type 0
  HasDistinctNumbers jobs = IsDistinct shares_number jobs

  -- of the jobs that were put the workers worked some, and put a result for each; of the results some were taken
  pub record Flows (put taken : List J) : Type 0 where
    pub worked : List J
    pub others : List J
    pub jobs : IsPermutation put (worked ++ others)
    pub given : List J
    pub each : EachMade made number worked given
    pub left : List J
    pub results : IsPermutation given (taken ++ left)

  -- the result is made of a job that was put under its number, and no other job was put under it
  pub record IsOfItsJob (put : List J) (result : J) : Type 0 where
    pub job : J
    pub was_put : Contains put job
    pub same_number : number result ≡ number job
    pub not_zero : number job ≢ 0
    pub is_made : made job result
    pub alone : (other : J) → Contains put other → number other ≡ number result → other ≡ job

  -- each result that was taken is of its job, and none was taken twice
  abbrev pub EachResultIsOfItsJob : Type 0
  EachResultIsOfItsJob = KeepsNumber → (put taken : List J) → Flows put taken → HasDistinctNumbers put
      → ((result : J) → Contains taken result → IsOfItsJob put result) × HasDistinctNumbers taken

  -- what a call of `serve` added to the accounts of all workers: jobs that were worked and an end for each worker, and a result for each job that was worked
  pub record PoolWorked (old new : List (Pass J)) : Type 0 where
    pub worked : List J
    pub ends : List J
    pub given : List J
    pub each : EachMade made number worked given
    pub ended : All (λ end. number end ≡ 0) ends
    pub got : IsPermutation (jobs_got new) (jobs_got old ++ (worked ++ ends))
    pub put : IsPermutation (results_put new) (results_put old ++ given)

  -- so it is after each call of `serve`
  abbrev pub AccountsOfAPool : Type 0
  AccountsOfAPool = (jobs results : Queue J) (old new : List (Pass J)) → AllServe jobs results made number old new → PoolWorked old new
