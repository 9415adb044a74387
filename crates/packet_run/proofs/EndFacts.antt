-- The ends of a run.
use Rattle.packet_run.proofs.Common.{[], ℕ, ◌++◌, ◌+◌, ◌<◌, ◌∙◌, ◌∷◌, ◌≡◌, ◌≤◌, ◌⊎◌, All, All-head, All-tail, ap, append-nil, append_assoc, Appends, Appends-nil, Appends-trans, arith, Bool, concat, Consumes, Consumes-nil, Consumes-trans, Consumes-whole, cut_text, Database, EndsAs, Err, false, From, Ghosts, GoesOn, IfSome, inl, inr, InUse, InWork, IsAtEnd, IsJob, Keeps, Known, length, List, Member, None, number_in, Ok, Pipeline, Piping, put_by, PutsEnds, PutsJobs, Reads, refl, RegisterHistory, rest_text, rest_unless, Result, RisesWhere, Some, StampedPacket, Stopped, subst, suc, sym, take, take-append_seam, take-length, take_all, Task, text_of, true, zero}
use Rattle.decode_pool.proofs.PutFacts.{puts_end}
use Rattle.decode_session.proofs.FinishFacts.{part-behind, part-longer}
use Rattle.decode_session.specs.Causes.{HasOutCause}
use Rattle.decode_session.specs.Run.{most_packets}
use Rattle.decode_session.specs.declared.ending.RunEnd.{RunEnd}
use Rattle.decode_session.specs.declared.ending.RunFault.{RunFault}
use Rattle.mib_model.specs.Packets.{BeginsNoPacket}
use Rattle.tm_io.specs.Octets.{AppendsPrefix, WritesUnless}
use Rattle.packet_run.proofs.KeepsFacts.{keeps_ends, keeps_trans, right_before}
use Rattle.packet_run.proofs.StampFacts.{extends_same}
use Rattle.packet_run.specs.Feeding.{EndsUntil, Fed, HasUntilCause, HasWriteCause, PipesUntil}
use Rattle.packet_run.specs.Runs.{Commits, Drove, EndsRun, is_out_failed, IsFeedFailed, Runs}
use Rattle.packet_run.specs.declared.until.Until.{Until}
use Rattle.decode_session.specs.declared.ending.RunFault.TheVariants as fault
use Rattle.decode_session.specs.declared.batch.Filled.TheVariants as filled
use Rattle.decode_session.specs.declared.ending.Stop.TheVariants as stop
use Rattle.packet_run.specs.declared.until.Until.TheVariants as until

-- ---- texts in part

part-whole : (text tail : List ℕ) (old new : Known) → Appends old new text → AppendsPrefix old new (text ++ tail)
part-whole text tail old new wrote = (length text, rw take-append_seam wrote)

part-gives : (failed : Bool) (text : List ℕ) (old new : Known) → WritesUnless failed old new text → AppendsPrefix old new text
part-gives false text old new gives = (length text, rw take-length gives)
part-gives true text old new gives = gives

writes-behind : (failed : Bool) (text tail : List ℕ) (old mid new : Known) → Appends old mid text → WritesUnless failed mid new tail
    → WritesUnless failed old new (text ++ tail)
writes-behind false text tail old mid new wrote more = Appends-trans old mid new text tail wrote more
writes-behind true text tail old mid new wrote more = part-behind text tail old mid new wrote more

-- ---- cuts

none-begins_none : BeginsNoPacket []
none-begins_none zero fits packet = absurd (omega (arith, packet))
none-begins_none (suc n) fits packet = absurd (omega (arith, packet))

rest_text-some : (rest : List ℕ) (count : ℕ) → length rest ≡ count → 0 < count → rest_text rest ≡ cut_text count
rest_text-some [] count size some = absurd (omega (arith, size, some))
rest_text-some (b ∷ rest) count size some = ap cut_text size

still-end : (origin left after : Known) (read : List ℕ) → Consumes origin left read → IsAtEnd left → Consumes left after []
    → IfSome origin (λ octets. IsAtEnd after)
still-end None left after read all end taken = tt
still-end (Some octets) None after read all end taken = absurd all
still-end (Some octets) (Some left) None read all end taken = absurd taken
still-end (Some octets) (Some left) (Some after) read all end taken = sym taken ∙ end

-- ---- what is behind the last packet

-- a rest was taken that begins no packet, and whether the feed failed there
record Behind (count before now : ℕ) (left after : Known) : Type 0 where
  rest : List ℕ
  none : BeginsNoPacket rest
  taken : Consumes left after rest
  failed : Bool
  rises : RisesWhere failed before now
  limit : count ≡ most_packets → rest ≡ []
  few : count ≤ most_packets

abbrev no_rest : {count before now : ℕ} {left after : Known} → Consumes left after [] → now ≡ before → count ≤ most_packets → Behind count before now left after
no_rest taken same few = record { rest = []; none = none-begins_none; taken = taken; failed = false; rises = same; limit = λ is. refl; few = few }

abbrev a_rest : {count before now : ℕ} {left after : Known} (rest : List ℕ) (failed : Bool) → BeginsNoPacket rest → Consumes left after rest
    → RisesWhere failed before now
    → count < most_packets → Behind count before now left after
a_rest rest failed none taken rises less = record {
  rest = rest;
  none = none;
  taken = taken;
  failed = failed;
  rises = rises;
  limit = λ is. absurd (omega (arith, less, is));
  few = omega (arith, less);
}

abbrev behind : (u : Until) (count before now : ℕ) (left after : Known) → EndsUntil u count left after → HasUntilCause u before now
    → Behind count before now left after
behind (until.FeedEnds filled.Paused) count before now left after (ends, less) cause = absurd ends
behind (until.FeedEnds filled.End) count before now left after ((end, taken), less) cause = no_rest taken cause (omega (arith, less))
behind (until.FeedEnds (filled.Cut octets)) count before now left after
    ((rest, size, some, none, taken, end), less) cause = a_rest rest false none taken cause less
behind (until.FeedEnds filled.Failed) count before now left after ((rest, none, taken), less) cause = a_rest rest true none taken cause less
behind until.Limit count before now left after (same, all) cause = no_rest (rw same (Consumes-nil left)) cause (omega (arith, all))
behind until.OutFault count before now left after (same, few) cause = no_rest (rw same (Consumes-nil left)) cause few

-- how such a run ends, and what is written of the rest
record Shows (result : Result RunEnd RunFault) (packets : List (List ℕ)) (failed : Bool) (rest : List ℕ) (origin after mid written : Known) : Type 0 where
  is_failed : IsFeedFailed result failed
  ends : EndsRun result packets rest origin after
  writes : WritesUnless (is_out_failed result) mid written (rest_unless failed rest)

shows : (u : Until) (result : Result RunEnd RunFault) (packets : List (List ℕ)) (count before now : ℕ) (origin left after mid written : Known)
    (ends : EndsUntil u count left after) (cause : HasUntilCause u before now)
    → (u ≡ until.OutFault → ⊥) → length packets ≡ count → Consumes origin left (concat packets) → EndsAs u result mid written
    → let b = behind u count before now left after ends cause in Shows result packets b.failed b.rest origin after mid written
shows (until.FeedEnds filled.Paused) result packets count before now origin left after mid written (ends, less) cause isnt many read told = absurd ends
shows (until.FeedEnds filled.End) result packets count before now origin left after mid written ((end, taken), less) cause isnt many read (is, kept) =
    let over = still-end origin left after (concat packets) read end taken in
    rw is (record { is_failed = refl; ends = (refl, over, omega (arith, less, many)); writes = rw kept (Appends-nil mid) })
shows (until.FeedEnds (filled.Cut octets)) result packets count before now origin left after mid written
    ((rest, size, some, none, taken, end), less) cause isnt many read (inl (is, told)) =
    let over = Consumes-whole origin after (concat packets ++ rest) (λ octets. IsAtEnd after)
    (Consumes-trans origin left after (concat packets) rest read taken) end end in
    rw is (record { is_failed = refl; ends = (size, some, over, omega (arith, less, many)); writes = rw (rest_text-some rest octets size some) told })
shows (until.FeedEnds (filled.Cut octets)) result packets count before now origin left after mid written
    ((rest, size, some, none, taken, end), less) cause isnt many read (inr (is, told)) =
    rw is (record { is_failed = tt; ends = omega (arith, less, many); writes = rw (rest_text-some rest octets size some) told })
shows (until.FeedEnds filled.Failed) result packets count before now origin left after mid written ((rest, none, taken), less) cause isnt many read (is, kept) =
    rw is (record { is_failed = refl; ends = omega (arith, less, many); writes = rw kept (Appends-nil mid) })
shows until.Limit result packets count before now origin left after mid written (same, all) cause isnt many read (is, kept) =
    rw is (record { is_failed = refl; ends = many ∙ all; writes = rw kept (Appends-nil mid) })
shows until.OutFault result packets count before now origin left after mid written ends cause isnt many read told = absurd (isnt refl)

-- what was written was handed on, unless the output failed
handed : (ended result : Result RunEnd RunFault) (packets : List (List ℕ)) (failed : Bool) (rest : List ℕ) (origin after mid written : Known)
    → (result ≡ ended) ⊎ (result ≡ Err (fault.Print stop.Out))
    → length packets ≤ most_packets → Shows ended packets failed rest origin after mid written → Shows result packets failed rest origin after mid written
handed ended result packets failed rest origin after mid written (inl is) few s = rw is s
handed ended result packets failed rest origin after mid written (inr is) few s =
    rw is (record { is_failed = tt; ends = few; writes = part-gives (is_out_failed ended) (rest_unless failed rest) mid written s.writes })

-- ends of workers are no jobs
puts_ends : {P : Type 0} {plans : Ghosts P} (tables : P → Database) (stamped : List StampedPacket) (put ends : List (Task P plans)) (limit : ℕ)
    → All (λ t. number_in t ≡ 0) ends
    → PutsJobs number_in (IsJob tables stamped) put limit → PutsJobs number_in (IsJob tables stamped) (put ++ ends) limit
puts_ends tables stamped put [] limit ended puts = rw append-nil puts
puts_ends {P} {plans} tables stamped put (e ∷ ends) limit ended puts = rw append_assoc at
    (puts_ends tables stamped (put ++ e ∷ []) ends limit (All-tail (λ (t : Task P plans). number_in t ≡ 0) e ends ended)
    (puts_end number_in (IsJob tables stamped) put limit e puts (All-head (λ (t : Task P plans). number_in t ≡ 0) e ends ended)))

module _ {W : Type 0} {stands : W → List Member → Type 0} {from : From W} {own : RegisterHistory} where
  runs_of : (result : Result RunEnd RunFault) {stamped : List StampedPacket} {packets : List (List ℕ)} {before now : ℕ} {origin left after written : Known}
      {w : W} → Reads own stamped packets origin left
      → (b : Behind (length own) before now left after) → IsFeedFailed result b.failed → EndsRun result packets b.rest origin after
      → WritesUnless (is_out_failed result) from.written written (text_of from.first stamped ++ rest_unless b.failed b.rest)
      → Commits stands result from stamped w written → Runs stands result from own before now origin after w written
  runs_of result {packets = packets} {origin = origin} {left} {after} {written} {w} r b is_failed ends text commits = record {
    read = concat packets ++ b.rest;
    packets = packets;
    rest = b.rest;
    taken = Consumes-trans origin left after (concat packets) b.rest r.taken b.taken;
    cut = record { whole = refl; each = r.are_packets; begins_none = b.none };
    many = r.many;
    limit = λ is. b.limit (sym r.many ∙ is);
    feed_failed = b.failed;
    is_failed = is_failed;
    feed_count = b.rises;
    ends = ends;
    text = subst (λ (ss : List StampedPacket). WritesUnless (is_out_failed result) from.written written (text_of from.first ss ++ rest_unless b.failed b.rest))
        r.are_stamped text;
    commits = subst (λ (ss : List StampedPacket). Commits stands result from ss w written) r.are_stamped commits;
  }

  module _ {P : Type 0} {plans : Ghosts P} {tables : P → Database} {q : Pipeline P plans} {w : W} {before now : ℕ} {origin after : Known} where
    drove_of : (result : Result RunEnd RunFault) {Said : List StampedPacket → Type 0} {stamped : List StampedPacket} {written : Known}
        → (k : InWork tables stamped q Said) → (Said stamped → Runs stands result from own before now origin after w written)
        → Drove tables stands result from own before now origin after q w written
    drove_of result {stamped = stamped} k runs = record {
      stamped = stamped;
      made = k.made;
      holds = k.holds;
      limit = q.read + 1;
      puts = k.puts;
      runs = λ right. runs (k.said stamped (extends_same stamped k.numbered) right);
    }

    -- the output failed: where so many are committed, the text of all is written in part
    pub drove_stopped : {u : Until} {p : Pipeline P plans} {v : InUse P plans} {w0 : W} {x y : Known} (f : Fed tables stands u from own p v w0 origin after x)
        → HasUntilCause u before now → p.done ≤ p.read → GoesOn p q
        → Stopped tables stands from f.stamped q w y → Drove tables stands (Err (fault.Print stop.Out)) from own before now origin after q w y
    drove_stopped {u} {y = y} f cause below on st =
        let b = behind u (length own) before now f.left after f.ends cause in let r = f.reads in
        let many = r.many in let few = b.few in let read = st.read in let ahead = f.ahead in let same = on.read in let more = on.more in
        let within = on.below below in
        drove_of (Err (fault.Print stop.Out)) st (λ prints.
        let front = text_of from.first (take q.done f.stamped) ++ prints.over in
        runs_of (Err (fault.Print stop.Out)) r b tt (omega (arith, many, few))
        (part-longer (text_of from.first f.stamped) (rest_unless b.failed b.rest) from.written y
        (rw (prints.parts) (part-whole front prints.more from.written y prints.printed)))
        (record {
          count = q.done;
          within = omega (arith, read, within);
          all = λ isnt. absurd (cc isnt);
          few = omega (arith, read, ahead, same, more);
          more = prints.over;
          least = prints.printed;
          in_next = prints.in_next;
          told = prints.watched;
        }))

    -- all was committed and printed, and handed on, unless the output failed
    pub drove_all : (ended result : Result RunEnd RunFault) {u : Until} {p : Pipeline P plans} {v v' : InUse P plans} {w0 : W} {x mid written new : Known}
        (f : Fed tables stands u from own p v w0 origin after x) → HasUntilCause u before now → (u ≡ until.OutFault → ⊥)
        → q.done ≡ q.read → EndsAs u ended mid written → (result ≡ ended) ⊎ (result ≡ Err (fault.Print stop.Out)) → new ≡ written
        → Piping tables stands from f.stamped q v' w mid
        → Drove tables stands result from own before now origin after q w new
    drove_all ended result {u} {mid = mid} {written} {new} f cause isnt all ends is same pp =
        let ss = f.stamped in let r = f.reads in let b = behind u (length own) before now f.left after f.ends cause in
        let few = b.few in let many = r.many in let read = pp.work.read in
        let s = handed ended result f.packets b.failed b.rest origin after mid written is (omega (arith, few, many))
        (shows u ended f.packets (length own) before now origin f.left after mid written f.ends cause isnt many r.taken ends) in
        let over = part-gives (is_out_failed result) (rest_unless b.failed b.rest) mid written s.writes in
        let whole : take q.done ss ≡ ss = take_all q.done ss (omega (arith, read, all)) in
        drove_of result pp.work (λ g.
        let wrote : Appends from.written mid (text_of from.first ss) = rw whole at g.printed in
        runs_of result r b s.is_failed s.ends
        (rw same (writes-behind (is_out_failed result) (text_of from.first ss) (rest_unless b.failed b.rest) from.written mid written wrote s.writes))
        (record {
          count = q.done;
          within = omega (arith, read, all);
          all = λ isnt. all ∙ sym read;
          few = omega (arith, read, all);
          more = take over.0 (rest_unless b.failed b.rest);
          least = rw (same, whole)
              (Appends-trans from.written mid written (text_of from.first ss) (take over.0 (rest_unless b.failed b.rest)) wrote over.1);
          in_next = λ some. absurd (omega (arith, read, all, some));
          told = g.watched;
        }))

  -- what comes behind: results that are taken in, and ends of workers
  module _ {P : Type 0} {plans : Ghosts P} {tables : P → Database} where
    pub drove_home : {result : Result RunEnd RunFault} {p q r : Pipeline P plans} {before now : ℕ} {origin after written : Known} {w : W} → Keeps tables p q
        → put_by q ≡ put_by p → PutsEnds q r
        → Drove tables stands result from own before now origin after p w written → Drove tables stands result from own before now origin after r w written
    drove_home {p = p} {q} home put e d =
        let k = keeps_trans home (keeps_ends {tables = tables} e) in let more = k.holds d.made d.holds in record {
          stamped = d.stamped;
          made = d.made ++ more.0;
          holds = more.1;
          limit = d.limit;
          puts = rw (e.put, put) (puts_ends tables d.stamped (put_by p) e.ends d.limit e.ended d.puts);
          runs = λ right. d.runs (right_before d.stamped d.made more.0 k right);
        }

-- ---- where the output didn't fail

pub write_same : (u : Until) {before mid : ℕ} → (u ≡ until.OutFault → ⊥) → HasWriteCause u before mid → mid ≡ before
write_same (until.FeedEnds why) isnt same = same
write_same until.Limit isnt same = same
write_same until.OutFault isnt same = absurd (isnt refl)

pub out_same : (r : Result RunEnd RunFault) {before now : ℕ} → is_out_failed r ≡ false → HasOutCause r before now → now ≡ before
out_same (Ok end) isnt cause = cause
out_same (Err fault.Feed) isnt cause = cause
out_same (Err (fault.Print stop.Memory)) isnt cause = cause
out_same (Err (fault.Print stop.Out)) isnt cause = absurd (cc isnt)

pub pipes_of : {P : Type 0} {plans : Ghosts P} {tables : P → Database} {W : Type 0} {stands : W → List Member → Type 0} (u : Until) {from : From W}
    {stamped : List StampedPacket} {p : Pipeline P plans} {v : InUse P plans} {w : W} {x : Known}
    → (u ≡ until.OutFault → ⊥) → PipesUntil tables stands u from stamped p v w x → Piping tables stands from stamped p v w x
pipes_of (until.FeedEnds why) isnt pipes = pipes
pipes_of until.Limit isnt pipes = pipes
pipes_of until.OutFault isnt pipes = absurd (isnt refl)
