-- One more cell, worked and given; and the two passes of one worker.
use Rattle.std.proofs.Common.{◌≡◌, ◌≢◌, ℕ, List, [], ◌∷◌, ◌++◌, sym, ap, ◌∙◌, append_assoc, append-nil, length, get_or, set, subst, arith}
use Rattle.work_queue.specs.declared.account.Account.{Account}
use Rattle.work_queue.specs.declared.queue.Queue.{Queue}
use Rattle.work_queue.specs.declared.queue.Pass.{Pass}
use Rattle.work_queue.specs.Accounts.{account, with_put, with_got}
use Rattle.work_queue.specs.Passes.{account_of, IsOf}
use Rattle.decode_pool.specs.Served.{EachMade, Works, Serves, AllServe}

module _ {J : Type 0} (made : J → J → Type 0) (number : J → ℕ) where
  pub each_push : (worked given : List J) (job result : J) → EachMade made number worked given → made job result → number job ≢ 0 → EachMade made number (worked ++ job ∷ []) (given ++ result ∷ [])
  each_push [] [] job result each is n = (is, n, tt)
  each_push [] (y ∷ given) job result each is n = absurd each
  each_push (x ∷ worked) [] job result each is n = absurd each
  each_push (x ∷ worked) (y ∷ given) job result each is n = (each.0, each.1, each_push worked given job result each.2 is n)

  pub begins : (jobs results : Account J) → Works made number jobs results jobs results
  begins jobs results = ([], [], tt, ap (λ l. account jobs.shares jobs.put l) (sym (append-nil jobs.got)), ap (λ l. account results.shares l results.got) (sym (append-nil results.put)))

  pub goes_on : (jobs results jobs' results' jobs'' results'' : Account J) (job result : J) → Works made number jobs results jobs' results' → made job result → number job ≢ 0
      → jobs'' ≡ with_got jobs' job → results'' ≡ with_put results' result → Works made number jobs results jobs'' results''
  goes_on jobs results jobs' results' jobs'' results'' job result works is n got put = (
    works.0 ++ job ∷ [],
    works.1 ++ result ∷ [],
    each_push works.0 works.1 job result works.2 is n,
    got ∙ ap (λ (a : Account J). with_got a job) works.3 ∙ ap (λ l. account jobs.shares jobs.put l) (append_assoc jobs.got works.0 (job ∷ [])),
    put ∙ ap (λ (a : Account J). with_put a result) works.4 ∙ ap (λ l. account results.shares l results.got) (append_assoc results.put works.1 (result ∷ [])),
  )

module _ {J : Type 0} (made : J → J → Type 0) (number : J → ℕ) (jobs results : Queue J) where
  pair_of : (front back : List (Pass J)) (a b a' b' : Pass J) → length front ≡ 1 → length back ≡ 1 → a ≡ get_or front 0 a → b ≡ get_or back 0 b
      → IsOf jobs a' → IsOf results b' → Serves made number (account_of (get_or front 0 a)) (account_of (get_or back 0 b)) (account_of a') (account_of b')
      → AllServe jobs results made number (front ++ back) (set front 0 a' ++ set back 0 b')
  pair_of [] back a b a' b' one two is js p q s = absurd (omega arith)
  pair_of (x ∷ y ∷ ys) back a b a' b' one two is js p q s = absurd (omega arith)
  pair_of (x ∷ []) [] a b a' b' one two is js p q s = absurd (omega arith)
  pair_of (x ∷ []) (z ∷ w ∷ ws) a b a' b' one two is js p q s = absurd (omega arith)
  pair_of (x ∷ []) (z ∷ []) a b a' b' one two is js p q s = (p, q, s, tt)

  -- one worker's two passes, cut from a list of two
  pub pair_serves : (all front back : List (Pass J)) (a b a' b' : Pass J) → all ≡ front ++ back → length front ≡ 1 → length back ≡ 1 → a ≡ get_or front 0 a → b ≡ get_or back 0 b
      → IsOf jobs a' → IsOf results b' → Serves made number (account_of (get_or front 0 a)) (account_of (get_or back 0 b)) (account_of a') (account_of b')
      → AllServe jobs results made number all (set front 0 a' ++ set back 0 b')
  pair_serves all front back a b a' b' whole one two is js p q s = subst (λ (l : List (Pass J)). AllServe jobs results made number l (set front 0 a' ++ set back 0 b')) (sym whole) (pair_of front back a b a' b' one two is js p q s)
