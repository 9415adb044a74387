-- The join of all passes: what the whole accounts of both queues tell of the results.
use Rattle.std.proofs.Common.{◌≡◌, ◌≢◌, ℕ, suc, ◌+◌, ◌/◌, List, [], ◌∷◌, ◌++◌, IsPermutation, length, refl, sym, ap, ◌∙◌, subst, append_assoc, append-nil, arith}
use Rattle.std.specs.List.{All}
use Rattle.std.proofs.lemmas.List.Elements.{All-head, All-tail}
use Rattle.std.proofs.lemmas.List.Sorted.{IsPermutation-append, IsPermutation-append_comm, IsPermutation-append_left, IsPermutation-append_right, IsPermutation-refl, IsPermutation-sym, IsPermutation-trans}
use Rattle.work_queue.specs.declared.account.Account.{Account}
use Rattle.work_queue.specs.declared.queue.Queue.{Queue}
use Rattle.work_queue.specs.declared.queue.Pass.{Pass}
use Rattle.work_queue.specs.Accounts.{ALL_SHARES, account, joined, one_share}
use Rattle.work_queue.specs.Passes.{account_of}
use Rattle.decode_pool.specs.Served.{AllServe, Ready, Serves}
use Rattle.decode_pool.specs.Flow.{Flows, IsOfItsJob, jobs_got, results_put}
use Rattle.decode_pool.specs.Joins.{CallerDid, EachJoinedResultIsOfItsJob, IsStocked, PutsJobs, TellsBalance, WorksItself, joined_jobs, joined_results}
use Rattle.decode_pool.proofs.AccountFacts.{accounts, each_append, part_by_part, same_list}
use Rattle.decode_pool.proofs.FlowFacts.{each_is_of_its_job}
use Rattle.decode_pool.proofs.PutFacts.{distinct, such_job}
use Rattle.decode_pool.proofs.Works.{each_push}

module _ {J : Type 0} where
  -- accounts with the same parts
  same_parts : {n m : ℕ} {put put' got got' : List J} → n ≡ m → put ≡ put' → got ≡ got' → account n put got ≡ account m put' got'
  same_parts {n} {m} {put} {put'} {got} {got'} e f h = ap (λ k. account k put got) e ∙ ap (λ l. account m l got) f ∙ ap (λ l. account m put' l) h

  -- passes that are unused got no job, and put no result
  no_jobs : (passes : List (Pass J)) → All (λ pass. account_of pass ≡ one_share) passes → jobs_got passes ≡ []
  no_jobs [] unused = refl
  no_jobs (x ∷ []) unused = refl
  no_jobs (x ∷ y ∷ passes) unused =
      let rest = All-tail (λ pass. account_of pass ≡ one_share) x (y ∷ passes) unused in
      let here : account_of x ≡ one_share = All-head (λ pass. account_of pass ≡ one_share) x (y ∷ passes) unused in
      ap (λ (a : Account J). a.got ++ jobs_got passes) here ∙ no_jobs passes (All-tail (λ pass. account_of pass ≡ one_share) y passes rest)

  no_results : (passes : List (Pass J)) → All (λ pass. account_of pass ≡ one_share) passes → results_put passes ≡ []
  no_results [] unused = refl
  no_results (x ∷ []) unused = refl
  no_results (x ∷ y ∷ passes) unused =
      let rest = All-tail (λ pass. account_of pass ≡ one_share) x (y ∷ passes) unused in
      let here : account_of y ≡ one_share = All-head (λ pass. account_of pass ≡ one_share) y passes rest in
      ap (λ (a : Account J). a.put ++ results_put passes) here ∙ no_results passes (All-tail (λ pass. account_of pass ≡ one_share) y passes rest)

module _ {J : Type 0} (made : J → J → Type 0) (number : J → ℕ) where
  -- a worker put no job, and got no result
  taker : (p q x y : Account J) → p ≡ one_share → Serves made number p q x y → (x.shares ≡ 1) × (x.put ≡ [])
  taker p q x y unused serves =
      let middle = serves.3 in
      let works = serves.2.3 in (
        ap (λ (a : Account J). a.shares) middle ∙ ap (λ (a : Account J). a.shares) works ∙ ap (λ (a : Account J). a.shares) unused,
        ap (λ (a : Account J). a.put) middle ∙ ap (λ (a : Account J). a.put) works ∙ ap (λ (a : Account J). a.put) unused,
      )

  giver : (p q x y : Account J) → q ≡ one_share → Serves made number p q x y → (y.shares ≡ 1) × (y.got ≡ [])
  giver p q x y unused serves =
      let works = serves.2.4 in (
        ap (λ (a : Account J). a.shares) works ∙ ap (λ (a : Account J). a.shares) unused,
        ap (λ (a : Account J). a.got) works ∙ ap (λ (a : Account J). a.got) unused,
      )

  half_more : (n : ℕ) → suc (suc n) / 2 ≡ suc (n / 2)
  half_more n = omega arith

  -- the caller's pass of the jobs, once those of workers that were unused are joined into it
  jobs_are : (jobs results : Queue J) (own : Account J) (old new : List (Pass J)) → All (λ pass. account_of pass ≡ one_share) old → AllServe jobs results made number old new
      → joined_jobs own new ≡ account (own.shares + length old / 2) own.put (own.got ++ jobs_got new)
  jobs_are jobs results own [] [] unused serves = same_parts (omega arith) refl (sym (append-nil own.got))
  jobs_are jobs results own [] (x ∷ new) unused serves = absurd serves
  jobs_are jobs results own (p ∷ []) new unused serves = absurd serves
  jobs_are jobs results own (p ∷ q ∷ old) [] unused serves = absurd serves
  jobs_are jobs results own (p ∷ q ∷ old) (x ∷ []) unused serves = absurd serves
  jobs_are jobs results own (p ∷ q ∷ old) (x ∷ y ∷ new) unused serves =
      let behind = All-tail (λ pass. account_of pass ≡ one_share) p (q ∷ old) unused in
      let one = taker (account_of p) (account_of q) (account_of x) (account_of y) (All-head (λ pass. account_of pass ≡ one_share) p (q ∷ old) unused) serves.2 in
      let share : (account_of x).shares ≡ 1 = one.0 in
      let half = half_more (length old) in
      jobs_are jobs results (joined own (account_of x)) old new (All-tail (λ pass. account_of pass ≡ one_share) q old behind) serves.3
      ∙ same_parts (omega (arith, share, half)) (ap (λ l. own.put ++ l) one.1 ∙ append-nil own.put) (append_assoc own.got (account_of x).got (jobs_got new))

  -- and its pass of the results
  results_are : (jobs results : Queue J) (own : Account J) (old new : List (Pass J)) → All (λ pass. account_of pass ≡ one_share) old → AllServe jobs results made number old new
      → joined_results own new ≡ account (own.shares + length old / 2) (own.put ++ results_put new) own.got
  results_are jobs results own [] [] unused serves = same_parts (omega arith) (sym (append-nil own.put)) refl
  results_are jobs results own [] (x ∷ new) unused serves = absurd serves
  results_are jobs results own (p ∷ []) new unused serves = absurd serves
  results_are jobs results own (p ∷ q ∷ old) [] unused serves = absurd serves
  results_are jobs results own (p ∷ q ∷ old) (x ∷ []) unused serves = absurd serves
  results_are jobs results own (p ∷ q ∷ old) (x ∷ y ∷ new) unused serves =
      let behind = All-tail (λ pass. account_of pass ≡ one_share) p (q ∷ old) unused in
      let one = giver (account_of p) (account_of q) (account_of x) (account_of y) (All-head (λ pass. account_of pass ≡ one_share) q old behind) serves.2 in
      let share : (account_of y).shares ≡ 1 = one.0 in
      let half = half_more (length old) in
      results_are jobs results (joined own (account_of y)) old new (All-tail (λ pass. account_of pass ≡ one_share) q old behind) serves.3
      ∙ same_parts (omega (arith, share, half)) (append_assoc own.put (account_of y).put (results_put new)) (ap (λ l. own.got ++ l) one.1 ∙ append-nil own.got)

  -- the passes of a pool may serve again
  pub serve_ready : (jobs results : Queue J) (old new : List (Pass J)) → AllServe jobs results made number old new → Ready jobs results new
  serve_ready jobs results [] [] serves = tt
  serve_ready jobs results [] (x ∷ new) serves = absurd serves
  serve_ready jobs results (p ∷ []) new serves = absurd serves
  serve_ready jobs results (p ∷ q ∷ old) [] serves = absurd serves
  serve_ready jobs results (p ∷ q ∷ old) (x ∷ []) serves = absurd serves
  serve_ready jobs results (p ∷ q ∷ old) (x ∷ y ∷ new) serves = (serves.0, serves.1, serve_ready jobs results old new serves.3)

  onward : {xs ys zs : List J} → IsPermutation xs ys → IsPermutation ys zs → IsPermutation xs zs
  onward {xs} {ys} {zs} first second = IsPermutation-trans xs ys zs first second

  -- of the cells that were put: those that the caller worked and that the workers worked, the others that both got, and those that are left
  jobs_flow : (put got got' left worked others worked' ends : List J) → IsPermutation put ((got ++ got') ++ left) → IsPermutation got (worked ++ others) → IsPermutation got' (worked' ++ ends)
      → IsPermutation put ((worked ++ worked') ++ ((others ++ ends) ++ left))
  jobs_flow put got got' left worked others worked' ends balance mine theirs =
      onward balance
      (onward
      (IsPermutation-append_left left (got ++ got') ((worked ++ worked') ++ (others ++ ends))
      (onward (IsPermutation-append got (worked ++ others) got' (worked' ++ ends) mine theirs) (part_by_part worked others worked' ends)))
      (same_list (((worked ++ worked') ++ (others ++ ends)) ++ left) ((worked ++ worked') ++ ((others ++ ends) ++ left)) (append_assoc (worked ++ worked') (others ++ ends) left)))

  -- of the results: those that the caller took, its own, and those that are left
  results_flow : (own given put taken left : List J) → IsPermutation put given → IsPermutation put (taken ++ left) → IsPermutation (own ++ given) ((taken ++ own) ++ left)
  results_flow own given put taken left are balance =
      onward (IsPermutation-append_right own given (taken ++ left) (onward (IsPermutation-sym put given are) balance))
      (onward (same_list (own ++ (taken ++ left)) ((own ++ taken) ++ left) (sym (append_assoc own taken left)))
      (IsPermutation-append_left left (own ++ taken) (taken ++ own) (IsPermutation-append_comm own taken)))

  -- the whole accounts tell the way of all jobs
  all_flows : (jobs results : Queue J) (old new : List (Pass J)) (a b a' b' : Account J) (own : List J) → IsStocked a b old → CallerDid made number a b a' b' own
      → AllServe jobs results made number old new → TellsBalance (joined_jobs a' new) → TellsBalance (joined_results b' new) → Flows made number a'.put (b'.got ++ own)
  all_flows jobs results old new a b a' b' own stocked did serves jobs_tell results_tell =
      let p = accounts made number jobs results old new serves in
      let j = jobs_are jobs results a' old new stocked.unused serves in
      let r = results_are jobs results b' old new stocked.unused serves in
      let job_shares : a.shares + length old / 2 ≡ ALL_SHARES = stocked.job_shares in
      let same_jobs : a'.shares ≡ a.shares = did.job_shares in
      let result_shares : b.shares + length old / 2 ≡ ALL_SHARES = stocked.result_shares in
      let same_results : b'.shares ≡ b.shares = did.result_shares in
      let left = jobs_tell (ap (λ (z : Account J). z.shares) j ∙ omega (arith, job_shares, same_jobs)) in
      let rest = results_tell (ap (λ (z : Account J). z.shares) r ∙ omega (arith, result_shares, same_results)) in
      let balance : IsPermutation a'.put ((a'.got ++ jobs_got new) ++ left.0) = subst (λ (z : Account J). IsPermutation z.put (z.got ++ left.0)) j left.1 in
      let all_put : b'.put ++ results_put new ≡ results_put new = ap (λ l. l ++ results_put new) did.no_result in
      let balance' : IsPermutation (results_put new) (b'.got ++ rest.0) =
      subst (λ l. IsPermutation l (b'.got ++ rest.0)) all_put (subst (λ (z : Account J). IsPermutation z.put (z.got ++ rest.0)) r rest.1) in
      let theirs : IsPermutation (jobs_got new) (p.worked ++ p.ends) = subst (λ l. IsPermutation (jobs_got new) (l ++ (p.worked ++ p.ends))) (no_jobs old stocked.unused) p.got in
      let given : IsPermutation (results_put new) p.given = subst (λ l. IsPermutation (results_put new) (l ++ p.given)) (no_results old stocked.unused) p.put in
      let works = did.works in
      record {
        worked = works.worked ++ p.worked;
        others = (works.others ++ p.ends) ++ left.0;
        jobs = jobs_flow a'.put a'.got (jobs_got new) left.0 works.worked works.others p.worked p.ends balance works.parts theirs;
        given = own ++ p.given;
        each = each_append made number works.worked own p.worked p.given works.each p.each;
        left = rest.0;
        results = results_flow own p.given (results_put new) b'.got rest.0 given balance';
      }

  pub each_joined : EachJoinedResultIsOfItsJob made number
  each_joined keeps jobs results old new a b a' b' own stocked did serves jobs_tell results_tell =
      let flows = all_flows jobs results old new a b a' b' own stocked did serves jobs_tell results_tell in
      each_is_of_its_job made number keeps a'.put (b'.got ++ own) flows (distinct made number a'.put did.rise)

  -- where each job that was put is such a job, each result is made of such a job
  pub joined_of_such : (IsSuch : J → Type 0) (put : List J) (limit : ℕ) (result : J) → PutsJobs number IsSuch put limit → (of : IsOfItsJob made number put result) → IsSuch of.job
  joined_of_such IsSuch put limit result puts of = such_job number IsSuch put of.job puts.each of.was_put of.not_zero

  -- the caller got nothing yet; it got a job and worked it; it got another cell
  pub works_nothing : WorksItself made number [] []
  works_nothing = record { worked = []; others = []; each = tt; parts = IsPermutation-refl [] }

  pub works_job : (got own : List J) (job result : J) → WorksItself made number got own → made job result → number job ≢ 0 → WorksItself made number (got ++ job ∷ []) (own ++ result ∷ [])
  works_job got own job result works is isnt = record {
    worked = works.worked ++ job ∷ [];
    others = works.others;
    each = each_push made number works.worked own job result works.each is isnt;
    parts =
        onward (IsPermutation-append_left (job ∷ []) got (works.worked ++ works.others) works.parts)
        (onward (same_list ((works.worked ++ works.others) ++ job ∷ []) (works.worked ++ (works.others ++ job ∷ [])) (append_assoc works.worked works.others (job ∷ [])))
        (onward (IsPermutation-append_right works.worked (works.others ++ job ∷ []) (job ∷ works.others) (IsPermutation-append_comm works.others (job ∷ [])))
        (same_list (works.worked ++ (job ∷ works.others)) ((works.worked ++ job ∷ []) ++ works.others) (sym (append_assoc works.worked (job ∷ []) works.others)))));
  }

  pub works_other : (got own : List J) (cell : J) → WorksItself made number got own → WorksItself made number (got ++ cell ∷ []) own
  works_other got own cell works = record {
    worked = works.worked;
    others = works.others ++ cell ∷ [];
    each = works.each;
    parts =
        onward (IsPermutation-append_left (cell ∷ []) got (works.worked ++ works.others) works.parts)
        (same_list ((works.worked ++ works.others) ++ cell ∷ []) (works.worked ++ (works.others ++ cell ∷ [])) (append_assoc works.worked works.others (cell ∷ [])));
  }
