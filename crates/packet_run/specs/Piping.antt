-- What is kept while packets are in work: once all results are known to be right, so is what was printed. [This project's own.]
use Rattle.std.specs.Prelude.{◌≡◌, ◌⊎◌, ℕ, ◌+◌, ◌≤◌, List, [], ◌∷◌, ◌++◌, length, take, drop, Option, Some}
use Rattle.std.specs.Arc.{arc_value}
use Rattle.std.specs.List.{All, Contains}
use Rattle.std.specs.Io.KnownBytes.{Appends}
use Rattle.commit_order.specs.declared.window.Window.{Window}
use Rattle.commit_order.specs.Windows.{next_of, waiting}
use Rattle.decode_pool.specs.Joins.{PutsJobs, WorksItself}
use Rattle.decode_session.specs.Finishing.{standing}
use Rattle.fold_state.specs.Boards.{memory_of}
use Rattle.mib_model.specs.declared.database.Database.{Database}
use Rattle.mib_model.specs.Interpreter.{StampedPacket, start, course_after_all}
use Rattle.struct_plan.specs.declared.structure.Structures as Structures
use Rattle.work_queue.specs.Passes.{account_of}
use Rattle.packet_jobs.specs.declared.in_use.InUse.{InUse}
use Rattle.packet_jobs.specs.declared.job.Task.{Task}
use Rattle.packet_run.specs.declared.parts.Pipeline.{Pipeline}
use Rattle.packet_run.specs.Stamped.{EndsInNext, Extends, IsNumberedFrom, text_of}
use Rattle.packet_jobs.specs.Tasks.{AllRight, IsJob, IsWorked, number_in}
use Rattle.packet_run.specs.Told.{From, Member, members_from}

module _ {W : Type 0} (stands : W → List Member → Type 0) where
  -- of these packets so many are committed, and maybe a part of the next record was written; the watch was told of those
  pub record Prints (from : From W) (all : List StampedPacket) (done : ℕ) (watch : W) (written : Option (List ℕ)) : Type 0 where
    pub over : List ℕ
    pub more : List ℕ
    pub parts : text_of from.first all ≡ (text_of from.first (take done all) ++ over) ++ more
    pub printed : Appends from.written written (text_of from.first (take done all) ++ over)
    pub in_next : EndsInNext from.first all done over
    pub watched : (told : List Member) → stands from.watch told → stands watch (told ++ members_from (start from.first) (take done all))

module _ {P : Type 0} {plans : Structures.Ghosts P} where
  -- the tasks that the caller put into the queue of jobs
  abbrev pub put_by : Pipeline P plans → List (Task P plans)
  put_by pipeline = (account_of pipeline.first).put

  -- the tasks that the caller got back from the queue of jobs, to work them itself
  abbrev pub got_by : Pipeline P plans → List (Task P plans)
  got_by pipeline = (account_of pipeline.first).got

  -- the tasks that the caller got from the queue of results
  abbrev pub results_of : Pipeline P plans → List (Task P plans)
  results_of pipeline = (account_of pipeline.second).got

  -- the shares of both passes stay, and no result was put
  pub record SharesStay (old new : Pipeline P plans) : Type 0 where
    pub jobs : (account_of new.first).shares ≡ (account_of old.first).shares
    pub results : (account_of new.second).shares ≡ (account_of old.second).shares
    pub none : (account_of new.second).put ≡ (account_of old.second).put

  -- no packet was read or committed, and the same number is next
  pub record Stays (old new : Pipeline P plans) : Type 0 where
    pub done : new.done ≡ old.done
    pub read : new.read ≡ old.read
    pub next : next_of new.window ≡ next_of old.window

  -- no packet was read and no job put, and no fewer are committed, of those that were read
  pub record GoesOn (old new : Pipeline P plans) : Type 0 where
    pub put : put_by new ≡ put_by old
    pub read : new.read ≡ old.read
    pub more : old.done ≤ new.done
    pub below : old.done ≤ old.read → new.done ≤ new.read

  -- the edition in use stays
  pub record StaysInUse (old new : InUse P plans) : Type 0 where
    pub edition : new.edition ≡ old.edition
    pub handle : new.handle ≡ old.handle

  -- a result waits now, or was let go
  pub record Held (old new : Window (Task P plans)) (result : Task P plans) : Type 0 where
    pub next : next_of new ≡ next_of old
    pub waits : (n : ℕ) (t : Task P plans) → waiting new n ≡ Some t → (waiting old n ≡ Some t) ⊎ ((t ≡ result) × (n ≡ number_in t))

module _ {P : Type 0} {plans : Structures.Ghosts P} (tables : P → Database) where
  -- the caller made these results of tasks that it got back, and each that waits is one of them or came from the queue
  pub record Holds (made : List (Task P plans)) (pipeline : Pipeline P plans) : Type 0 where
    pub works : WorksItself (IsWorked tables) number_in (got_by pipeline) made
    pub numbered : (n : ℕ) (t : Task P plans) → waiting pipeline.window n ≡ Some t → number_in t ≡ n
    pub known : (n : ℕ) (t : Task P plans) → waiting pipeline.window n ≡ Some t → Contains (results_of pipeline ++ made) t

  -- so it stays, with more results
  pub record Keeps (old new : Pipeline P plans) : Type 0 where
    pub shares : SharesStay old new
    pub taken : List (Task P plans)
    pub results : results_of new ≡ results_of old ++ taken
    pub holds : (made : List (Task P plans)) → Holds made old → (more : List (Task P plans)) × Holds (made ++ more) new

  -- a packet is of the edition in use
  pub record IsOfInUse (in_use : InUse P plans) (s : StampedPacket) : Type 0 where
    pub edition : s.edition ≡ in_use.edition
    pub shown : s.tables ≡ tables (arc_value in_use.handle)

  -- these packets were read, and their jobs put; and if the results are right, whatever packets follow, then this is said of all
  pub record InWork (stamped : List StampedPacket) (pipeline : Pipeline P plans) (IsSaid : List StampedPacket → Type 0) : Type 0 where
    pub made : List (Task P plans)
    pub holds : Holds made pipeline
    pub puts : PutsJobs number_in (IsJob tables stamped) (put_by pipeline) (pipeline.read + 1)
    pub read : length stamped ≡ pipeline.read
    pub numbered : IsNumberedFrom 1 stamped
    pub said : (all : List StampedPacket) → Extends stamped all → AllRight tables all (results_of pipeline ++ made) → IsSaid all

  module _ {W : Type 0} (stands : W → List Member → Type 0) where
    -- of these packets so many are committed: their text was written, this is kept after them, and the watch was told of each
    pub record Going (from : From W) (all : List StampedPacket) (done : ℕ) (in_use : InUse P plans) (watch : W) (written : Option (List ℕ)) : Type 0 where
      pub printed : Appends from.written written (text_of from.first (take done all))
      pub course : standing in_use.edition (tables (arc_value in_use.handle)) (memory_of in_use.board) ≡ course_after_all (start from.first) (take done all)
      pub watched : (told : List Member) → stands from.watch told → stands watch (told ++ members_from (start from.first) (take done all))

    -- these packets are in work, those that aren't committed are of the edition in use, and the others are printed
    pub record Piping (from : From W) (stamped : List StampedPacket) (pipeline : Pipeline P plans) (in_use : InUse P plans) (watch : W)
        (written : Option (List ℕ)) : Type 0 where
      pub work : InWork stamped pipeline (λ all. Going from all pipeline.done in_use watch written)
      pub of_use : All (IsOfInUse in_use) (drop pipeline.done stamped)

    -- the output failed: these packets are in work, and so much is printed
    abbrev pub Stopped : From W → List StampedPacket → Pipeline P plans → W → Option (List ℕ) → Type 0
    Stopped from stamped pipeline watch written = InWork stamped pipeline (λ all. Prints stands from all pipeline.done watch written)

    -- one more packet was read, and its edition is in use
    pub record Takes (from : From W) (stamped : List StampedPacket) (s : StampedPacket) (pipeline : Pipeline P plans) (in_use : InUse P plans)
        (watch : W) (written : Option (List ℕ)) : Type 0 where
      pub piping : Piping from (stamped ++ s ∷ []) pipeline in_use watch written
      pub edition : in_use.edition ≡ s.edition
      pub shown : tables (arc_value in_use.handle) ≡ s.tables
