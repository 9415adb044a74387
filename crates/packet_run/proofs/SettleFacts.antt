-- The join of all passes: each result is right.
use Rattle.packet_run.proofs.Common.{[], ℕ, ◌++◌, ◌∙◌, ◌≡◌, account_of, AllRight, AllServe, ap, Database, each_joined, Ghosts, Holds, IsJob, IsStocked, IsWorked, joined_jobs, joined_of_such, joined_results, List, number_in, Pass, Pipeline, put_by, PutsJobs, results_of, SharesStay, StampedPacket, Task, TellsBalance}
use Rattle.decode_pool.specs.Flow.{KeepsNumber}
use Rattle.work_queue.specs.declared.queue.Queue.{Queue}
use Rattle.packet_jobs.specs.declared.job.Task.TheVariants as task

module _ {P : Type 0} {plans : Ghosts P} (tables : P → Database) where
  keeps_number : KeepsNumber (IsWorked {plans = plans} tables) number_in
  keeps_number task.End result is = ap (λ (t : Task P plans). number_in t) is
  keeps_number (task.Packet job) task.End is = absurd is
  keeps_number (task.Packet job) (task.Packet result) is = is.number

  -- what a worker makes of the job of a packet is right
  right_of : (stamped : List StampedPacket) (job result : Task P plans) → IsJob tables stamped job → IsWorked tables job result → IsJob tables stamped result
  right_of stamped task.End result is made = absurd is
  right_of stamped (task.Packet job) task.End is made = absurd made
  right_of stamped (task.Packet job) (task.Packet result) (s, there, of) made =
      (s, there, record { number = made.number ∙ of.number; packet = made.packet ∙ of.packet; edition = made.edition ∙ of.edition })

  -- once the workers have served and all passes are joined
  pub all_right : (jobs results : Queue (Task P plans)) (old new : List (Pass (Task P plans))) (p q : Pipeline P plans) (stamped : List StampedPacket)
      (made : List (Task P plans)) (limit : ℕ)
      → IsStocked (account_of p.first) (account_of p.second) old → (account_of p.second).put ≡ [] → SharesStay p q → Holds tables made q
      → PutsJobs number_in (IsJob tables stamped) (put_by q) limit
      → AllServe jobs results (IsWorked tables) number_in old new → TellsBalance (joined_jobs (account_of q.first) new)
      → TellsBalance (joined_results (account_of q.second) new)
      → AllRight tables stamped (results_of q ++ made)
  all_right jobs results old new p q stamped made limit stocked none shares holds puts serves tell_jobs tell_results result there =
      let law = each_joined (IsWorked tables) number_in keeps_number jobs results old new (account_of p.first) (account_of p.second) (account_of q.first)
      (account_of q.second) made stocked
      (record { rise = puts.rise; works = holds.works; no_result = shares.none ∙ none; job_shares = shares.jobs; result_shares = shares.results }) serves
      tell_jobs tell_results in
      let of = law.0 result there in
      right_of stamped of.job result (joined_of_such (IsWorked tables) number_in (IsJob tables stamped) (put_by q) limit result puts of) of.is_made
