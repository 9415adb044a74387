-- The caller of a pool: what it puts and works itself, and its two passes once those of the workers are joined into them.
use Rattle.std.specs.Prelude.{◌≡◌, ◌<◌, ◌+◌, ◌/◌, ◌==◌, not, ℕ, List, [], ◌∷◌, ◌++◌, length, IsPermutation}
use Rattle.std.specs.List.{All, AllPairs, Contains, filter}
use Rattle.work_queue.specs.declared.account.Account.{Account}
use Rattle.work_queue.specs.declared.queue.Queue.{Queue}
use Rattle.work_queue.specs.declared.queue.Pass.{Pass}
use Rattle.work_queue.specs.Accounts.{ALL_SHARES, IsWhole, joined, one_share}
use Rattle.work_queue.specs.Passes.{account_of}
use Rattle.decode_pool.specs.Served.{EachMade, AllServe}
use Rattle.decode_pool.specs.Flow.{KeepsNumber, HasDistinctNumbers, IsOfItsJob}

module _ {J : Type 0} where
  -- the account of the caller's pass of the jobs once those of the workers are joined into it, in their order
  abbrev pub joined_jobs : Account J → List (Pass J) → Account J
  joined_jobs own [] = own
  joined_jobs own (taken ∷ []) = own
  joined_jobs own (taken ∷ given ∷ passes) = joined_jobs (joined own (account_of taken)) passes

  -- the same for its pass of the results
  abbrev pub joined_results : Account J → List (Pass J) → Account J
  joined_results own [] = own
  joined_results own (taken ∷ []) = own
  joined_results own (taken ∷ given ∷ passes) = joined_results (joined own (account_of given)) passes

  -- the workers' passes are unused, and with the caller's two passes they have all the shares of both queues
  pub record IsStocked (jobs results : Account J) (passes : List (Pass J)) : Type 0 where
    pub unused : All (λ pass. account_of pass ≡ one_share) passes
    pub job_shares : jobs.shares + length passes / 2 ≡ ALL_SHARES
    pub result_shares : results.shares + length passes / 2 ≡ ALL_SHARES

  -- what a join tells: a whole account put what it got and some cells that are left
  abbrev pub TellsBalance : Account J → Type 0
  TellsBalance whole = IsWhole whole → (left : List J) × IsPermutation whole.put (whole.got ++ left)

module _ {J : Type 0} (number : J → ℕ) where
  -- the cells that are jobs, and no ends of workers
  abbrev pub jobs_among : List J → List J
  jobs_among cells = filter (λ cell. not (number cell == 0)) cells

  -- the number of each job is below those of the later ones; some numbers may be left out, and ends may stand anywhere
  abbrev pub NumbersRise : List J → Type 0
  NumbersRise cells = AllPairs (λ job later. number job < number later) (jobs_among cells)

  -- what was put are ends, and jobs with rising numbers below this limit, each of which is such a job
  pub record PutsJobs (IsSuch : J → Type 0) (put : List J) (limit : ℕ) : Type 0 where
    pub rise : NumbersRise put
    pub below : All (λ job. number job < limit) (jobs_among put)
    pub each : All IsSuch (jobs_among put)

module _ {J : Type 0} (made : J → J → Type 0) (number : J → ℕ) where
  -- of the cells that the caller got it worked some, and made these results of them
  pub record WorksItself (got own : List J) : Type 0 where
    pub worked : List J
    pub others : List J
    pub each : EachMade made number worked own
    pub parts : IsPermutation got (worked ++ others)

  -- what the accounts of the caller's two passes show: since they were stocked it put jobs and no result, worked some itself, and split off nothing more
  pub record CallerDid (jobs results jobs' results' : Account J) (own : List J) : Type 0 where
    pub rise : NumbersRise number jobs'.put
    pub works : WorksItself jobs'.got own
    pub no_result : results'.put ≡ []
    pub job_shares : jobs'.shares ≡ jobs.shares
    pub result_shares : results'.shares ≡ results.shares

  -- once the workers have served and all passes are joined, each result that the caller got or made itself is of its job, and no two have one number
  abbrev pub EachJoinedResultIsOfItsJob : Type 0
  EachJoinedResultIsOfItsJob = KeepsNumber made number → (jobs results : Queue J) (old new : List (Pass J)) (a b a' b' : Account J) (own : List J)
      → IsStocked a b old → CallerDid a b a' b' own → AllServe jobs results made number old new
      → TellsBalance (joined_jobs a' new) → TellsBalance (joined_results b' new)
      → ((result : J) → Contains (b'.got ++ own) result → IsOfItsJob made number a'.put result) × HasDistinctNumbers made number (b'.got ++ own)
