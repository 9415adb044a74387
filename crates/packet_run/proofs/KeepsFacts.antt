-- What the caller's calls keep.
use Rattle.packet_run.proofs.Common.{[], ℕ, ◌++◌, ◌∙◌, ◌∷◌, ◌≡◌, ◌≢◌, ◌⊎◌, Account, account_of, Advances, AllRight, ap, append-nil, append_assoc, arith, Contains, Contains-append_cases, Contains-append_left, Contains-append_right, Contains-push, Database, Ghosts, got_by, Held, inl, inr, IsUnchanged, IsWorked, Keeps, List, number_in, Pipeline, PutsEnds, refl, results_of, SharesStay, Some, StampedPacket, sym, Task, waiting, works_job, works_other, WorksItself}
use Rattle.commit_order.specs.declared.window.Window.{Window}
use Rattle.work_queue.specs.Accounts.{account, with_got}

-- what waits is what waited, or less
abbrev pub WaitsLess : {T : Type 0} → Window T → Window T → Type 0
WaitsLess {T} old new = (n : ℕ) (t : T) → waiting new n ≡ Some t → waiting old n ≡ Some t

pub less_same : {T : Type 0} (w : Window T) → WaitsLess w w
less_same w n t is = is

pub less_unchanged : {T : Type 0} {v w : Window T} → IsUnchanged v w → WaitsLess v w
less_unchanged same n t is = sym (same.waits n) ∙ is

pub less_advanced : {T : Type 0} {v w : Window T} → Advances v w → WaitsLess v w
less_advanced a n t is = let at = a.waits n in grind arith

module _ {P : Type 0} {plans : Ghosts P} where
  shares_trans : {p q r : Pipeline P plans} → SharesStay p q → SharesStay q r → SharesStay p r
  shares_trans a b = record { jobs = b.jobs ∙ a.jobs; results = b.results ∙ a.results; none = b.none ∙ a.none }

  -- what is among results and those that the caller made is among more of both
  more_known : (rs made a b : List (Task P plans)) (t : Task P plans) → Contains (rs ++ made) t ⊎ Contains (a ++ b) t → Contains ((rs ++ a) ++ (made ++ b)) t
  more_known rs made a b t (inl there) = elim (Contains-append_cases rs made t there) [
    | inl result ↦ Contains-append_left (rs ++ a) (made ++ b) t (Contains-append_left rs a t result)
    | inr own ↦ Contains-append_right (rs ++ a) (made ++ b) t (Contains-append_left made b t own)
  ]
  more_known rs made a b t (inr there) = elim (Contains-append_cases a b t there) [
    | inl result ↦ Contains-append_left (rs ++ a) (made ++ b) t (Contains-append_right rs a t result)
    | inr own ↦ Contains-append_right (rs ++ a) (made ++ b) t (Contains-append_right made b t own)
  ]

  held : {v w : Window (Task P plans)} (t : Task P plans) → Held v w t → (n : ℕ) (x : Task P plans) → waiting w n ≡ Some x
      → (waiting v n ≡ Some x) ⊎ ((number_in x ≡ n) × Contains (t ∷ []) x)
  held t h n x is = elim (h.waits n x is) [
    | inl before ↦ inl before
    | inr new ↦ inr (sym new.1, rw (new.0) (Contains-push [] t))
  ]

module _ {P : Type 0} {plans : Ghosts P} {tables : P → Database} {p q : Pipeline P plans} where
  -- more results came from the queue, or the caller made them
  keeps_with : SharesStay p q → (a b : List (Task P plans)) → results_of q ≡ results_of p ++ a
      → ((made : List (Task P plans)) → WorksItself (IsWorked tables) number_in (got_by p) made
      → WorksItself (IsWorked tables) number_in (got_by q) (made ++ b))
      → ((n : ℕ) (t : Task P plans) → waiting q.window n ≡ Some t → (waiting p.window n ≡ Some t) ⊎ ((number_in t ≡ n) × Contains (a ++ b) t))
      → Keeps tables p q
  keeps_with shares a b results works waits = record {
    shares = shares;
    taken = a;
    results = results;
    holds = λ made h. (
      b,
      record {
        works = works made h.works;
        numbered = λ n t is. elim (waits n t is) [
          | inl before ↦ h.numbered n t before
          | inr new ↦ new.0
        ];
        known = λ n t is. rw results (more_known (results_of p) made a b t (elim (waits n t is) [
          | inl before ↦ inl (h.known n t before)
          | inr new ↦ inr new.1
        ]));
      },
    );
  }

  -- nothing was got
  pub keeps_same : SharesStay p q → got_by q ≡ got_by p → results_of q ≡ results_of p → WaitsLess p.window q.window → Keeps tables p q
  keeps_same shares got results less =
      keeps_with shares [] [] (results ∙ sym (append-nil (results_of p))) (λ made works. rw (got, append-nil) works) (λ n t is. inl (less n t is))

  -- neither pass was used
  pub keeps_less : q.first ≡ p.first → q.second ≡ p.second → WaitsLess p.window q.window → Keeps tables p q
  keeps_less e f less = keeps_same (record { jobs = cc; results = cc; none = cc }) (cc) (cc) less

  -- a result came from the queue
  pub keeps_result : (t : Task P plans) → q.first ≡ p.first → account_of q.second ≡ with_got (account_of p.second) t → Held p.window q.window t
      → Keeps tables p q
  keeps_result t e f waits =
      keeps_with (record { jobs = cc; results = cc; none = cc }) (t ∷ []) [] (cc) (λ made works. rw (ap (λ x. (account_of x).got) e, append-nil) works)
      (held t waits)

  -- a job was put, or nothing was got
  pub keeps_put : (put : List (Task P plans)) → account_of q.first ≡ account (account_of p.first).shares put (got_by p) → q.second ≡ p.second
      → WaitsLess p.window q.window → Keeps tables p q
  keeps_put put e f less = keeps_same (record { jobs = cc; results = cc; none = cc }) (cc) (cc) less

  -- the caller worked a job itself
  pub keeps_own : (job t : Task P plans) → account_of q.first ≡ with_got (account_of p.first) job → q.second ≡ p.second
      → IsWorked tables job t → number_in job ≢ 0 → Held p.window q.window t → Keeps tables p q
  keeps_own job t e f is isnt waits =
      keeps_with (record { jobs = cc; results = cc; none = cc }) [] (t ∷ []) (ap (λ x. (account_of x).got) f ∙ sym (append-nil (results_of p)))
      (λ made works. rw (ap (λ (a : Account _). a.got) e) (works_job (IsWorked tables) number_in (got_by p) made job t works is isnt)) (held t waits)

  -- it got an end
  pub keeps_other : (cell : Task P plans) → account_of q.first ≡ with_got (account_of p.first) cell → q.second ≡ p.second → WaitsLess p.window q.window
      → Keeps tables p q
  keeps_other cell e f less =
      keeps_with (record { jobs = cc; results = cc; none = cc }) [] [] (ap (λ x. (account_of x).got) f ∙ sym (append-nil (results_of p)))
      (λ made works. rw (ap (λ (a : Account _). a.got) e, append-nil) (works_other (IsWorked tables) number_in (got_by p) made cell works))
      (λ n t is. inl (less n t is))

  -- only ends were put
  pub keeps_ends : PutsEnds p q → Keeps tables p q
  keeps_ends e = keeps_same e.shares e.got (ap (λ x. (account_of x).got) e.second) (λ n t is. rw (e.window) at is)

  -- where more results are right, so are these
  pub right_before : (all : List StampedPacket) (made more : List (Task P plans)) → (k : Keeps tables p q)
      → AllRight tables all (results_of q ++ (made ++ more)) → AllRight tables all (results_of p ++ made)
  right_before all made more k right t there = right t (rw (k.results) (more_known (results_of p) made k.taken more t (inl there)))

module _ {P : Type 0} {plans : Ghosts P} {tables : P → Database} where
  pub keeps_refl : {p : Pipeline P plans} → Keeps tables p p
  keeps_refl {p} = keeps_less refl refl (less_same p.window)

  pub keeps_trans : {p q r : Pipeline P plans} → Keeps tables p q → Keeps tables q r → Keeps tables p r
  keeps_trans {p} {q} {r} a b = record {
    shares = shares_trans a.shares b.shares;
    taken = a.taken ++ b.taken;
    results = b.results ∙ ap (λ l. l ++ b.taken) a.results ∙ append_assoc (results_of p) a.taken b.taken;
    holds = λ made h. let x = a.holds made h in let y = b.holds (made ++ x.0) x.1 in (x.0 ++ y.0, rw append_assoc at y.1);
  }

  -- and then nothing more that counts
  pub keeps_on : {p q r : Pipeline P plans} → Keeps tables p q → r.first ≡ q.first → r.second ≡ q.second → r.window ≡ q.window → Keeps tables p r
  keeps_on k e f w = keeps_trans k (keeps_less e f (λ n t is. rw w at is))
