-- A whole live run, by what its two sides did and by the history at its end.
use Rattle.std.proofs.Common.{◌≡◌, ℕ, ◌+◌, ◌<◌, ◌^◌, Bool, true, false, arith, List, [], ◌∷◌, ◌++◌, map, length, Some, None, Result, refl, sym, ap, ◌∙◌, subst}
use Rattle.decode_session.specs.declared.ending.RunEnd.{RunEnd}
use Rattle.decode_session.specs.declared.ending.RunFault.{RunFault}
use Rattle.decode_session.specs.Causes.{HasOutCause}
use Rattle.histories.specs.History.{IsOfSeatsBelow, Permits, StartsWith, calls_of, moves_of}
use Rattle.live_desk.specs.declared.desk_end.DeskEnd.{DeskEnd}
use Rattle.live_desk.specs.Scripts.{Desked, DeskedFrom, HasDeskCause, HasRepliesCause}
use Rattle.live_desk.specs.Standing.{Standing}
use Rattle.live_desk.proofs.DeskFacts.{starts-more}
use Rattle.mib_model.specs.Texts.{rest_unless}
use Rattle.tm_io.specs.Octets.{WritesUnless}
use Rattle.tm_io.specs.Causes.{RisesWhere}
use Rattle.live_session.specs.Codes.{code_by}
use Rattle.live_session.specs.Live.{IsWatched, Lives, Prints, object}
use Rattle.live_session.proofs.EndFacts.{Known, code-is, few-packets, out-counts, read-out}
use Rattle.live_session.proofs.PlanFacts.{plans-of}
use Rattle.live_session.proofs.StampFacts.{members-same, none-left, reads-ahead, stamps-count, text-same}
use Rattle.run_model.specs.declared.code.Code.{Code}
use Rattle.mib_model.specs.declared.database.Database.{Database}
use Rattle.run_model.specs.DeskRuns.{Calls, moves_by}
use Rattle.run_model.specs.RegisterHistories.{IsRegisterHistory, MayEnter, RegisterHistory}
use Rattle.packet_run.specs.Runs.{Runs, is_out_failed}
use Rattle.packet_run.specs.Told.{Member, begun}

calls-back : (calls : Calls) → map (λ m. (m.entry, m.reply)) (moves_by calls) ≡ calls
calls-back [] = refl
calls-back (c ∷ cs) = ap (λ l. c ∷ l) (calls-back cs)

-- an object whose count stands, and could rise, didn't fail
pub unfailed : (failed : Bool) (before now : ℕ) → RisesWhere failed before now → now ≡ before → before + 1 < 2 ^ 64 → failed ≡ false
unfailed false before now counts same more = refl
unfailed true before now counts same more = absurd (omega (arith, counts.1, same, more))

-- what a desk did stands by all that goes on from what was seen
desked-on : (e : DeskEnd) (first : Database) (entries : Calls) (seen all : RegisterHistory) (left behind w0 w1 : Known) → StartsWith all seen → Desked e first entries seen left behind w0 w1 → Desked e first entries all left behind w0 w1
desked-on e first entries seen all left behind w0 w1 on d = record {
  given = d.given;
  taken = d.taken;
  handled = d.handled;
  others = d.others;
  of_script = d.of_script;
  all = d.all;
  whole = d.whole;
  few = d.few;
  short = d.short;
  limited = d.limited;
  no_more = d.no_more;
  early = d.early;
  late = d.late;
  early_replies = d.early_replies;
  late_replies = d.late_replies;
  middle = d.middle;
  last = d.last;
  at_first = d.at_first;
  later = d.later;
  entered = d.entered;
  tail = d.tail;
  by_end = d.by_end;
  is_tail = d.is_tail;
  told = d.told;
  fails_at = d.fails_at;
  front = d.front;
  starts = starts-more d.front seen all d.starts on;
  no_stamp = d.no_stamp;
  before = d.before;
}

module _ {W : Type 0} (stands : W → List Member → Type 0) (watch watched : W) (ended : Result RunEnd RunFault) (first : Database) (history own : RegisterHistory) (legal : IsRegisterHistory first history) (permits : Permits MayEnter history) (is : moves_of 0 history ≡ own) where
  -- what an intake printed is the output of the history
  unfoldable pub prints-of : (before now out_before out_now : ℕ) (l0 l1 w0 w1 : Known) → HasOutCause ended out_before out_now → Runs stands ended (begun first watch w0) own before now l0 l1 watched w1 → Prints first history (object l0 l1 before now) (object w0 w1 out_before out_now)
  prints-of before now out_before out_now l0 l1 w0 w1 cause i = record {
    read = i.read;
    packets = i.packets;
    rest = i.rest;
    taken = i.taken;
    cut = i.cut;
    moves = ap (λ (l : RegisterHistory). length l) is ∙ sym i.many;
    stamped = stamps-count first history own legal permits is ∙ sym i.many;
    few = few-packets ended i.packets i.rest l0 l1 i.ends;
    limit = i.limit;
    out_failed = is_out_failed ended;
    feed_failed = i.feed_failed;
    out_count = out-counts ended out_before out_now cause;
    feed_count = i.feed_count;
    whole = read-out ended i.feed_failed i.packets i.rest l0 l1 before now i.is_failed i.ends;
    written = subst (WritesUnless (is_out_failed ended) w0 w1) (text-same first history own legal permits is i.packets (rest_unless i.feed_failed i.rest)) i.text;
    ahead = reads-ahead first history own legal permits is i.packets i.commits.count i.commits.more w0 w1 out_before out_now i.many i.commits.few i.commits.least i.commits.in_next;
  }

  -- a live run
  pub lives-of : (c : Code) (e : DeskEnd) (seen : RegisterHistory) (stood behind : Standing) (before now desk_before desk_now out_before out_now reply_before reply_now : ℕ) (l0 l1 w0 w1 : Known) → c ≡ code_by ended e → IsOfSeatsBelow 2 history → moves_of 1 history ≡ behind.held.own
      → StartsWith history seen → HasOutCause ended out_before out_now → Runs stands ended (begun first watch w0) own before now l0 l1 watched w1 → DeskedFrom None e first seen stood behind → HasDeskCause (Some e) desk_before desk_now → HasRepliesCause (Some e) reply_before reply_now
      → Lives c first history (object l0 l1 before now) (object stood.left behind.left desk_before desk_now) (object w0 w1 out_before out_now) (object stood.held.written behind.held.written reply_before reply_now)
  unfolding prints-of
  lives-of c e seen stood behind before now desk_before desk_now out_before out_now reply_before reply_now l0 l1 w0 w1 is_code below desk_is on cause i desked desk_cause reply_cause =
      let entries = desked.0 in let d = desked.2 in
      let calls : calls_of 1 history ≡ entries = ap (λ (ms : RegisterHistory). map (λ m. (m.entry, m.reply)) ms) (desk_is ∙ desked.1) ∙ calls-back entries in
      record {
        is_history = record {
          legal = legal;
          permitted = permits;
          seats = below;
          plans = plans-of history d.early d.late _ d.middle d.last _ _ d.early_replies d.late_replies permits below (calls ∙ d.entered) d.at_first d.later;
        };
        prints = prints-of before now out_before out_now l0 l1 w0 w1 cause i;
        desk_end = e;
        desked = subst (λ cs. Desked e first cs history stood.left behind.left stood.held.written behind.held.written) (sym calls) (desked-on e first entries seen history stood.left behind.left stood.held.written behind.held.written on d);
        desk_count = desk_cause;
        replies_count = reply_cause;
        is_code = is_code ∙ code-is ended e i.feed_failed i.packets i.rest l0 l1 i.is_failed i.ends i.limit;
      }

  -- and what its watch was told
  pub watched-of : (c : Code) (e : DeskEnd) (seen : RegisterHistory) (stood behind : Standing) (before now desk_before desk_now out_before out_now reply_before reply_now : ℕ) (l0 l1 w0 w1 : Known) → c ≡ code_by ended e → IsOfSeatsBelow 2 history → moves_of 1 history ≡ behind.held.own
      → StartsWith history seen → HasOutCause ended out_before out_now → Runs stands ended (begun first watch w0) own before now l0 l1 watched w1 → DeskedFrom None e first seen stood behind → HasDeskCause (Some e) desk_before desk_now → HasRepliesCause (Some e) reply_before reply_now
      → IsWatched stands c first history (object l0 l1 before now) (object stood.left behind.left desk_before desk_now) (object w0 w1 out_before out_now) (object stood.held.written behind.held.written reply_before reply_now) watch watched
  unfolding lives-of prints-of reads-ahead
  watched-of c e seen stood behind before now desk_before desk_now out_before out_now reply_before reply_now l0 l1 w0 w1 is_code below desk_is on cause i desked desk_cause reply_cause = record {
    lives = lives-of c e seen stood behind before now desk_before desk_now out_before out_now reply_before reply_now l0 l1 w0 w1 is_code below desk_is on cause i desked desk_cause reply_cause;
    all = λ unfailed. none-left first history own legal permits is i.commits.count i.packets i.many (i.commits.all unfailed);
    told = λ told standing. subst (λ (ms : List Member). stands watched (told ++ ms)) (members-same first history own legal permits is i.commits.count i.packets) (i.commits.told told standing);
  }
