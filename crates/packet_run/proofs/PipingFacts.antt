-- What a run's steps do to what is kept while packets are in work.
use Rattle.packet_run.proofs.Common.{[], ℕ, ◌++◌, ◌+◌, ◌<◌, ◌∙◌, ◌∷◌, ◌≡◌, ◌≤◌, All, All-append, All-cons, All-drop, All-nil, All-weaker, AllRight, ap, append-nil, append_assoc, Appends-nil, Appends-trans, arc_value, arith, Contains-append_left, Contains-push, Course, course_of, Database, drop, drop-append-le, drop-append_seam, drop-drop, drop_all, Extends, From, Ghosts, GoesOn, Going, HasPrinted, InUse, InWork, IsFirst, IsJob, IsOfInUse, IsOfStamp, IsResultOf, IsUnused, IsWorked, jobs_among, Keeps, Known, length, length-append, List, Member, next_of, number_in, Pipeline, Piping, Prints, put_by, PutsJobs, record_for, record_text, refl, results_of, Some, StampedPacket, start, StaysInUse, Stopped, subst, sym, take, take-append-drop, Takes, Task, waiting, works_nothing}
use Rattle.decode_pool.proofs.PutFacts.{puts_further, puts_job, puts_nothing}
use Rattle.decode_session.specs.Finishing.{standing}
use Rattle.mib_model.specs.Interpreter.{course_after_all, interpret}
use Rattle.tm_io.specs.Octets.{AppendsPart}
use Rattle.packet_run.proofs.KeepsFacts.{keeps_refl, right_before}
use Rattle.packet_run.proofs.StampFacts.{at_place, course-is, course-next, extends_less, in-next, members-next, none-in-next, numbered_push, take_one, text-front, text-next, use_at}
use Rattle.packet_run.specs.Stamped.{text_of}
use Rattle.packet_run.specs.Told.{members_from}
use Rattle.packet_jobs.specs.declared.job.Job.{Job}
use Rattle.packet_jobs.specs.declared.job.Task.TheVariants as task

-- a packet that comes behind all that were read
at_end : (stamped all : List StampedPacket) (s : StampedPacket) (n : ℕ) → n ≡ length stamped → (e : Extends (stamped ++ s ∷ []) all) → drop n all ≡ s ∷ e.more
at_end stamped all s n is e = ap (λ k. drop k all) is ∙ ap (drop (length stamped)) (e.parts ∙ append_assoc stamped (s ∷ []) e.more)
    ∙ drop-append_seam stamped (s ∷ e.more)

module _ {P : Type 0} {plans : Ghosts P} where
  pub goes_on_trans : {p q r : Pipeline P plans} → GoesOn p q → GoesOn q r → GoesOn p r
  goes_on_trans a b = record { put = b.put ∙ a.put; read = b.read ∙ a.read; more = omega arith; below = λ le. b.below (a.below le) }

  pub stays_trans : {u v w : InUse P plans} → StaysInUse u v → StaysInUse v w → StaysInUse u w
  stays_trans a b = record { edition = b.edition ∙ a.edition; handle = b.handle ∙ a.handle }

module _ {P : Type 0} {plans : Ghosts P} (tables : P → Database) where
  job_more : (stamped : List StampedPacket) (s : StampedPacket) (t : Task P plans) → IsJob tables stamped t → IsJob tables (stamped ++ s ∷ []) t
  job_more stamped s task.End is = absurd is
  job_more stamped s (task.Packet job) (x, there, of) = (x, Contains-append_left stamped (s ∷ []) x there, of)

  -- the packet that is next, whose result is right
  record Next (all : List StampedPacket) (n : ℕ) (u : InUse P plans) (t : Task P plans) : Type 0 where
    s : StampedPacket
    rest : List StampedPacket
    at : drop n all ≡ s ∷ rest
    of_use : IsOfInUse tables u s
    is : IsResultOf tables s t

  next_of_right : (stamped all : List StampedPacket) (n : ℕ) (u : InUse P plans) (t : Task P plans) → Extends stamped all → number_in t ≡ n + 1
      → n < length stamped
      → All (IsOfInUse tables u) (drop n stamped) → IsJob tables all t → Next all n u t
  next_of_right stamped all n u task.End extends number lt of_use right = absurd right
  next_of_right stamped all n u (task.Packet job) extends number lt of_use (s, there, of) =
      let place = at_place all n s extends.numbered there (sym of.number ∙ number) in record {
        s = s;
        rest = place.0;
        at = place.1;
        of_use = use_at (IsOfInUse tables u) stamped extends.more n s place.0 (ap (drop n) (sym extends.parts) ∙ place.1) lt of_use;
        is = of;
      }

module _ {P : Type 0} {plans : Ghosts P} {tables : P → Database} where
  module _ {stamped : List StampedPacket} {p q : Pipeline P plans} {Said SaidNow : List StampedPacket → Type 0} where
    -- nothing was read
    work_on : Keeps tables p q → put_by q ≡ put_by p → q.read ≡ p.read → (w : InWork tables stamped p Said)
        → ((all : List StampedPacket) → Extends stamped all → AllRight tables all (results_of p ++ w.made) → Said all → SaidNow all)
        → InWork tables stamped q SaidNow
    work_on k put read w on = let more = k.holds w.made w.holds in record {
      made = w.made ++ more.0;
      holds = more.1;
      puts = rw (put, read) w.puts;
      read = w.read ∙ sym read;
      numbered = w.numbered;
      said = λ all extends right. let before = right_before all w.made more.0 k right in on all extends before (w.said all extends before);
    }

    -- one packet more was read
    work_more : (s : StampedPacket) → Keeps tables p q → q.read ≡ p.read + 1 → s.number ≡ length stamped + 1 → InWork tables stamped p Said
        → (PutsJobs number_in (IsJob tables (stamped ++ s ∷ [])) (put_by p) (p.read + 1)
        → PutsJobs number_in (IsJob tables (stamped ++ s ∷ [])) (put_by q) (q.read + 1))
        → ((all : List StampedPacket) → Extends (stamped ++ s ∷ []) all → Said all → SaidNow all) → InWork tables (stamped ++ s ∷ []) q SaidNow
    work_more s k read number w puts on =
        let more = k.holds w.made w.holds in let longer = length-append stamped (s ∷ []) in let r = w.read in record {
          made = w.made ++ more.0;
          holds = more.1;
          puts = puts (record {
            rise = w.puts.rise;
            below = w.puts.below;
            each = All-weaker (IsJob tables stamped) (IsJob tables (stamped ++ s ∷ [])) (job_more tables stamped s)
                (jobs_among number_in (put_by p)) w.puts.each;
          });
          read = omega (arith, longer, r, read);
          numbered = numbered_push 1 stamped s w.numbered (omega (arith, number));
          said = λ all extends right. on all extends (w.said all (extends_less stamped all s extends) (right_before all w.made more.0 k right));
        }

    -- and no job of it was put
    work_alone : (s : StampedPacket) → Keeps tables p q → put_by q ≡ put_by p → q.read ≡ p.read + 1 → s.number ≡ length stamped + 1
        → InWork tables stamped p Said
        → ((all : List StampedPacket) → Extends (stamped ++ s ∷ []) all → Said all → SaidNow all) → InWork tables (stamped ++ s ∷ []) q SaidNow
    work_alone s k put read number w on =
        work_more s k read number w
        (λ puts. rw put (puts_further number_in (IsJob tables (stamped ++ s ∷ [])) (put_by p) (p.read + 1) (q.read + 1) puts (omega (arith, read)))) on

  module _ {W : Type 0} {stands : W → List Member → Type 0} {from : From W} where
    -- calls that neither read nor commit
    pub piping_keeps : {stamped : List StampedPacket} {p q : Pipeline P plans} {u : InUse P plans} {w : W} {x : Known} → Keeps tables p q → put_by q ≡ put_by p
        → q.done ≡ p.done → q.read ≡ p.read → Piping tables stands from stamped p u w x → Piping tables stands from stamped q u w x
    piping_keeps k put done read pp = record { work = work_on k put read pp.work (λ all extends right g. rw done g); of_use = rw done pp.of_use }

    -- one more packet is committed
    going_more : (all : List StampedPacket) (n : ℕ) (s : StampedPacket) (rest : List StampedPacket) {u v : InUse P plans} {w w' : W} {x y : Known}
        → drop n all ≡ s ∷ rest
        → HasPrinted tables stands (course_of tables u) s v x y w w' → Going tables stands from all n u w x → Going tables stands from all (n + 1) v w' y
    going_more all n s rest {u} {v} {w} {w'} {x} {y} at h g =
        let front = take n all in
        let next : take (n + 1) all ≡ front ++ s ∷ [] = take_one all n s rest at in
        let h' = subst (λ (c : Course). HasPrinted tables stands c s v x y w w') g.course h in
        let c = course_after_all (start from.first) front in
        record {
          printed = rw (next, text-next) (Appends-trans from.written x y (text_of from.first front) (record_text (record_for c s)) g.printed h'.printed);
          course = (λ i. standing (h.edition i) (h.shown i) (sym h'.memory i)) ∙ sym (course-is c s) ∙ sym (course-next from.first front s)
              ∙ ap (course_after_all (start from.first)) (sym next);
          watched = λ told is. rw (next, members-next, ← append_assoc) (h'.told (told ++ members_from (start from.first) front) (g.watched told is));
        }

    -- a first part of a record, behind the text of the packets before
    prints_part : (all : List StampedPacket) (n : ℕ) (s : StampedPacket) (rest : List StampedPacket) {u : InUse P plans} {w : W} {x y : Known}
        → drop n all ≡ s ∷ rest
        → AppendsPart x y (record_text (record_for (course_of tables u) s)) → Going tables stands from all n u w x → Prints stands from all n w y
    prints_part all n s rest {u} {w} {x} {y} at part g =
        let front = take n all in
        let text = text_of from.first front in
        let next : take (n + 1) all ≡ front ++ s ∷ [] = take_one all n s rest at in
        let whole = record_text (record_for (course_after_all (start from.first) front) s) in
        let p = subst (λ (k : Course). AppendsPart x y (record_text (record_for k s))) g.course part in
        let behind = text-front from.first (n + 1) all in
        record {
          over = take p.0 whole;
          more = drop p.0 whole ++ behind.0;
          parts = behind.1 ∙ ap (λ t. t ++ behind.0) (ap (text_of from.first) next ∙ text-next from.first front s
              ∙ ap (λ t. text ++ t) (sym (take-append-drop p.0 whole)) ∙ sym (append_assoc text (take p.0 whole) (drop p.0 whole)))
              ∙ append_assoc (text ++ take p.0 whole) (drop p.0 whole) behind.0;
          printed = Appends-trans from.written x y text (take p.0 whole) g.printed p.2;
          in_next = in-next from.first all n p.0 s rest at p.1;
          watched = g.watched;
        }

    next_in : {stamped : List StampedPacket} {p : Pipeline P plans} {u : InUse P plans} {w : W} {x : Known} (t : Task P plans)
        → Some t ≡ waiting p.window (next_of p.window) → next_of p.window ≡ p.done + 1 → p.done < p.read
        → (pp : Piping tables stands from stamped p u w x) (all : List StampedPacket) → Extends stamped all
        → AllRight tables all (results_of p ++ pp.work.made) → Next tables all p.done u t
    next_in {stamped} {p} {u} t taken next lt pp all extends right =
        let h = pp.work.holds in let r = pp.work.read in
        next_of_right tables stamped all p.done u t extends (h.numbered (next_of p.window) t (sym taken) ∙ next) (omega (arith, lt, r)) pp.of_use
        (right t (h.known (next_of p.window) t (sym taken)))

    -- a result in its turn is committed
    pub piping_commit : {stamped : List StampedPacket} {p q : Pipeline P plans} {u v : InUse P plans} {w w' : W} {x y : Known} (t : Task P plans)
        → Some t ≡ waiting p.window (next_of p.window) → next_of p.window ≡ p.done + 1 → p.done < p.read
        → Keeps tables p q → put_by q ≡ put_by p → q.done ≡ p.done + 1 → q.read ≡ p.read → StaysInUse u v
        → ((s : StampedPacket) → IsOfInUse tables u s → IsResultOf tables s t → HasPrinted tables stands (course_of tables u) s v x y w w')
        → Piping tables stands from stamped p u w x → Piping tables stands from stamped q v w' y
    piping_commit {stamped} {p} {u = u} {v} t taken next lt k put done read stays printed pp = record {
      work = work_on k put read pp.work (λ all extends right g.
          let n = next_in t taken next lt pp all extends right in rw done (going_more all p.done n.s n.rest n.at (printed n.s n.of_use n.is) g));
      of_use = rw done (All-weaker (IsOfInUse tables u) (IsOfInUse tables v)
          (λ s is. record { edition = is.edition ∙ sym stays.edition; shown = is.shown ∙ ap (λ h. tables (arc_value h)) (sym stays.handle) })
          (drop (p.done + 1) stamped)
          (rw drop-drop at (All-drop (IsOfInUse tables u) 1 (drop p.done stamped) pp.of_use)));
    }

    -- the output failed in the record of a result
    pub stopped_commit : {stamped : List StampedPacket} {p q : Pipeline P plans} {u : InUse P plans} {w w' : W} {x y : Known} (t : Task P plans)
        → Some t ≡ waiting p.window (next_of p.window) → next_of p.window ≡ p.done + 1 → p.done < p.read
        → Keeps tables p q → put_by q ≡ put_by p → q.done ≡ p.done → q.read ≡ p.read → w' ≡ w
        → ((s : StampedPacket) → IsOfInUse tables u s → IsResultOf tables s t → AppendsPart x y (record_text (record_for (course_of tables u) s)))
        → Piping tables stands from stamped p u w x → Stopped tables stands from stamped q w' y
    stopped_commit {p = p} t taken next lt k put done read untold part pp = work_on k put read pp.work (λ all extends right g.
        let n = next_in t taken next lt pp all extends right in rw (done, untold) (prints_part all p.done n.s n.rest n.at (part n.s n.of_use n.is) g))

    -- nothing was written, and the watch stands for what it stood for
    pub rested : {stamped : List StampedPacket} {p : Pipeline P plans} {u : InUse P plans} {w w' : W} {x y : Known} → y ≡ x
        → ((told : List Member) → stands w told → stands w' told) → Piping tables stands from stamped p u w x → Piping tables stands from stamped p u w' y
    rested same rests pp = record {
      work = work_on keeps_refl refl refl pp.work (λ all extends right g. record {
        printed = rw same g.printed;
        course = g.course;
        watched = λ told stood. rests _ (g.watched told stood);
      });
      of_use = pp.of_use;
    }

    -- it failed where nothing was being written
    pub stopped_unflushed : {stamped : List StampedPacket} {p : Pipeline P plans} {u : InUse P plans} {w : W} {x y : Known} → y ≡ x
        → Piping tables stands from stamped p u w x → Stopped tables stands from stamped p w y
    stopped_unflushed {p = p} same pp = work_on keeps_refl refl refl pp.work (λ all extends right g.
        let behind = text-front from.first p.done all in record {
          over = [];
          more = behind.0;
          parts = rw append-nil behind.1;
          printed = rw (same, append-nil) g.printed;
          in_next = none-in-next from.first all p.done;
          watched = g.watched;
        })

    -- a job was put of a packet that was read
    pub piping_offer : {stamped : List StampedPacket} {p q : Pipeline P plans} {u : InUse P plans} {w : W} {x : Known} (s : StampedPacket) (job : Job P plans)
        → Keeps tables p q → put_by q ≡ put_by p ++ task.Packet job ∷ [] → q.done ≡ p.done → q.read ≡ p.read + 1
        → p.done ≤ p.read → s.number ≡ length stamped + 1 → IsOfStamp tables s job → IsOfInUse tables u s
        → Piping tables stands from stamped p u w x → Piping tables stands from (stamped ++ s ∷ []) q u w x
    piping_offer {stamped} {p} {q} {u} s job k put done read below number of of_use pp =
        let r = pp.work.read in let num = of.number in let same : q.read + 1 ≡ job.cell.number + 1 = omega (arith, num, number, r, read) in record {
          work = work_more s k read number pp.work
              (λ puts. rw (put, same) (puts_job number_in (IsJob tables (stamped ++ s ∷ [])) (put_by p) (p.read + 1) (task.Packet job) puts
              (omega (arith, num, number, r)) (λ zero. omega (arith, zero, num, number)) (s, Contains-push stamped s, of)))
              (λ all extends g. rw done g);
          of_use = rw (done, drop-append-le p.done stamped (s ∷ []) (omega (arith, below, r)))
              (All-append (IsOfInUse tables u) (drop p.done stamped) (s ∷ []) pp.of_use
              (All-cons (IsOfInUse tables u) s [] of_use (All-nil (IsOfInUse tables u))));
        }

    -- the caller did it itself
    pub piping_alone : {stamped : List StampedPacket} {p q : Pipeline P plans} {u v : InUse P plans} {w w' : W} {x y : Known} (s : StampedPacket)
        → Keeps tables p q → put_by q ≡ put_by p → p.done ≡ p.read → q.done ≡ p.done + 1 → q.read ≡ p.read + 1 → s.number ≡ length stamped + 1
        → HasPrinted tables stands (course_of tables u) s v x y w w' → Piping tables stands from stamped p u w x → Takes tables stands from stamped s q v w' y
    piping_alone {stamped} {p} {q} {v = v} s k put all_done done read number h pp =
        let r = pp.work.read in let longer = length-append stamped (s ∷ []) in let at : p.done ≡ length stamped = omega (arith, all_done, r) in record {
          piping = record {
            work = work_alone s k put read number pp.work
                (λ all extends g. rw done (going_more all p.done s extends.more (at_end stamped all s p.done at extends) h g));
            of_use = rw (drop_all q.done (stamped ++ s ∷ []) (omega (arith, longer, done, at))) (All-nil (IsOfInUse tables v));
          };
          edition = h.edition;
          shown = h.shown;
        }

    -- the output failed in its record
    pub stopped_alone : {stamped : List StampedPacket} {p q : Pipeline P plans} {u : InUse P plans} {w w' : W} {x y : Known} (s : StampedPacket)
        → Keeps tables p q → put_by q ≡ put_by p → p.done ≡ p.read → q.done ≡ p.done → q.read ≡ p.read + 1 → s.number ≡ length stamped + 1
        → w' ≡ w → AppendsPart x y (record_text (record_for (course_of tables u) s)) → Piping tables stands from stamped p u w x
        → Stopped tables stands from (stamped ++ s ∷ []) q w' y
    stopped_alone {stamped} {p} s k put all_done done read number untold part pp =
        let r = pp.work.read in let at : p.done ≡ length stamped = omega (arith, all_done, r) in
        work_alone s k put read number pp.work
        (λ all extends g. rw (done, untold) (prints_part all p.done s extends.more (at_end stamped all s p.done at extends) part g))

    -- a packet more was read, and no job put of it
    pub stopped_more : {stamped : List StampedPacket} {p q : Pipeline P plans} {w : W} {x : Known} (s : StampedPacket) → Keeps tables p q → put_by q ≡ put_by p
        → q.done ≡ p.done → q.read ≡ p.read + 1 → s.number ≡ length stamped + 1
        → Stopped tables stands from stamped p w x → Stopped tables stands from (stamped ++ s ∷ []) q w x
    stopped_more s k put done read number st = work_alone s k put read number st (λ all extends g. rw done g)

    -- nothing was read
    pub piping_start : {p : Pipeline P plans} {u : InUse P plans} → IsUnused p → IsFirst tables from.first u
        → Piping tables stands from [] p u from.watch from.written
    unfolding text_of interpret course_after_all members_from
    piping_start {p} {u} unused first = record {
      work = record {
        made = [];
        holds = record {
          works = rw (unused.got) (works_nothing (IsWorked tables) number_in);
          numbered = λ n t waits. absurd (cc (unused.empty n, waits));
          known = λ n t waits. absurd (cc (unused.empty n, waits));
        };
        puts = rw (unused.put, unused.read) (puts_nothing number_in (IsJob tables []));
        read = sym unused.read;
        numbered = tt;
        said = λ all extends right. rw (unused.done) (record {
          printed = Appends-nil from.written;
          course = λ i. standing (first.edition i) (first.shown i) (first.memory i);
          watched = λ told stood. rw append-nil stood;
        });
      };
      of_use = rw (unused.done) (All-nil (IsOfInUse tables u));
    }
