-- A desk's whole script: the lines up to the first `go`, and then the others.
use Rattle.std.proofs.Common.{◌≡◌, ◌⊎◌, ℕ, ◌+◌, ◌==◌, ◌≤◌, Bool, true, false, List, [], ◌++◌, length, drop, Option, Some, None, refl, sym, ap, ◌∙◌, subst, append_assoc, append-nil, length-append, arith, inl, inr}
use Rattle.std.specs.Prelude.{IfSome}
use Rattle.std.specs.Io.KnownBytes.{Appends, Consumes}
use Rattle.std.proofs.KnownBytes.{Appends-trans, Consumes-trans}
use Rattle.std.proofs.lemmas.List.Elements.{filter-append}
use Rattle.std.proofs.Math.Seq.{drop-append_seam, drop-length}
use Rattle.decode_session.proofs.FinishFacts.{part-behind}
use Rattle.desk.specs.Handling.{moves_at}
use Rattle.desk_lines.specs.ToCome.{Reading, IsAtLimit, reading_start, still, meets_limit}
use Rattle.desk_lines.proofs.ToComeFacts.{still-start, limit-start}
use Rattle.desk_lines.proofs.GivenFacts.{given-append, upto-both}
use Rattle.histories.specs.History.{StartsWith, moves_of}
use Rattle.tm_io.specs.Octets.{WritesUnless}
use Rattle.live_desk.specs.declared.desk_end.DeskEnd.{DeskEnd}
use Rattle.live_desk.specs.DeskEnds.{is_reply_fault}
use Rattle.live_desk.specs.Operators.{is_several, seat_of}
use Rattle.live_desk.specs.Scripts.{DeskedFrom, EndsEarly, FailsAt, Pauses, tail_at}
use Rattle.live_desk.specs.Standing.{Standing}
use Rattle.live_desk.proofs.LineFacts.{Known, desk-none, moves-append, text-append}
use Rattle.mib_model.specs.declared.database.Database.{Database}
use Rattle.run_model.specs.Desk.{DeskReply, desk_start}
use Rattle.run_model.specs.DeskRuns.{Calls, IsDesk, prelude}
use Rattle.run_model.specs.RegisterHistories.{RegisterHistory}
use Rattle.run_model.specs.Replies.{desk_text}
use Rattle.run_model.specs.Script.{most_lines, most_script, script, reaches_limit}

-- what goes on from a history goes on from its front
pub starts-more : (initial old new : RegisterHistory) → StartsWith old initial → StartsWith new old → StartsWith new initial
starts-more initial old new first later = (first.0 ++ later.0, later.1 ∙ ap (λ l. l ++ later.0) first.1 ∙ append_assoc initial first.0 later.0)

gives-behind : (failed : Bool) (xs ys : List ℕ) (a b c : Known) → Appends a b xs → WritesUnless failed b c ys → WritesUnless failed a c (xs ++ ys)
gives-behind false xs ys a b c front rest = Appends-trans a b c xs ys front rest
gives-behind true xs ys a b c front rest = part-behind xs ys a b c front rest

-- the replies failed behind others
fails-behind : (number : Option ℕ) (rs qs : List DeskReply) (others : List (List ℕ)) (tail : List ℕ) (a b c : Known) → Appends a b (desk_text number rs) → FailsAt number qs others tail b c → FailsAt number (rs ++ qs) others tail a c
fails-behind number rs qs others tail a b c written (front, more, place, wrote, inl (parts, few, part)) = (
  rs ++ front,
  more,
  place,
  subst (Appends a place) (sym (text-append number rs front)) (Appends-trans a b place (desk_text number rs) (desk_text number front) written wrote),
  inl (ap (λ l. rs ++ l) parts ∙ sym (append_assoc rs front more), few, part),
)
fails-behind number rs qs others tail a b c written (front, more, place, wrote, inr (all, none, limit, part)) = (
  rs ++ front,
  more,
  place,
  subst (Appends a place) (sym (text-append number rs front)) (Appends-trans a b place (desk_text number rs) (desk_text number front) written wrote),
  inr (ap (λ l. rs ++ l) all, none, limit, part),
)

-- the moves of the first lines stand at the front
in-front : (seat : ℕ) (front seen o1 : RegisterHistory) (cs : Calls) → StartsWith front seen → moves_of seat seen ≡ o1 → o1 ≡ moves_at seat cs → StartsWith (moves_of seat front) (moves_at seat cs)
in-front seat front seen o1 cs later listed own = (moves_of seat later.0, ap (moves_of seat) later.1 ∙ filter-append (λ m. m.seat == seat) seen later.0 ∙ ap (λ l. l ++ moves_of seat later.0) (listed ∙ own))

-- ---- what the script was

module _ (was : Reading) (unread : was ≡ reading_start) where
  of-start : (octets : List ℕ) → script octets ≡ still was octets
  of-start octets = sym (still-start octets) ∙ ap (λ r. still r octets) (sym unread)

  limit-of-start : (octets : List ℕ) → meets_limit was octets ≡ reaches_limit octets
  limit-of-start octets = ap (λ r. meets_limit r octets) unread ∙ limit-start octets

  -- as many lines and octets were read as there are
  all-lines : (now : Reading) (lines : ℕ) → now.lines ≡ was.lines + lines → now.lines ≡ lines
  all-lines now lines is = let none = ap (λ r. r.lines) unread in omega (arith, is, none)

  all-octets : (now : Reading) (octets : ℕ) → now.octets ≡ was.octets + octets → now.octets ≡ octets
  all-octets now octets is = let none = ap (λ r. r.octets) unread in omega (arith, is, none)

  limit-by : (now : Reading) (lines octets : ℕ) → now.lines ≡ was.lines + lines → now.octets ≡ was.octets + octets → IsAtLimit now → (lines ≡ most_lines) ⊎ (octets ≡ most_script)
  limit-by now lines octets many long (inl all) = inl (sym (all-lines now lines many) ∙ all)
  limit-by now lines octets many long (inr all) = inr (sym (all-octets now octets long) ∙ all)

  script-both : (mid : Reading) (left place : Known) (given : List ℕ) (first more others : List (List ℕ)) → Consumes left place given → IfSome left (λ l. IfSome place (λ b. still was l ≡ first ++ still mid b)) → IfSome place (λ l. still mid l ≡ more ++ others)
      → IfSome left (λ octets. script octets ≡ (first ++ more) ++ others)
  script-both mid None place given first more others taken ahead rest = tt
  script-both mid (Some l) None given first more others taken ahead rest = absurd taken
  script-both mid (Some l) (Some p) given first more others taken ahead rest = of-start l ∙ ahead ∙ ap (λ ls. first ++ ls) rest ∙ sym (append_assoc first more others)

  script-one : (left : Known) (handled others : List (List ℕ)) → IfSome left (λ l. still was l ≡ handled ++ others) → IfSome left (λ octets. script octets ≡ handled ++ others)
  script-one None handled others parted = tt
  script-one (Some l) handled others parted = of-start l ∙ parted

  tail-both : (number : Option ℕ) (e : DeskEnd) (mid : Reading) (left place : Known) (given tail : List ℕ) → Consumes left place given → IfSome left (λ l. IfSome place (λ b. meets_limit was l ≡ meets_limit mid b)) → IfSome place (λ l. tail ≡ tail_at number e (meets_limit mid l))
      → IfSome left (λ octets. tail ≡ tail_at number e (reaches_limit octets))
  tail-both number e mid None place given tail taken limit is = tt
  tail-both number e mid (Some l) None given tail taken limit is = absurd taken
  tail-both number e mid (Some l) (Some p) given tail taken limit is = is ∙ ap (tail_at number e) (sym limit ∙ limit-of-start l)

  tail-one : (number : Option ℕ) (e : DeskEnd) (left : Known) (tail : List ℕ) → IfSome left (λ l. tail ≡ tail_at number e (meets_limit was l)) → IfSome left (λ octets. tail ≡ tail_at number e (reaches_limit octets))
  tail-one number e None tail is = tt
  tail-one number e (Some l) tail is = is ∙ ap (tail_at number e) (limit-of-start l)

-- ---- the two parts; the first part of the history is the one that is given

module _ (number : Option ℕ) (e : DeskEnd) (first : Database) (all front seen : RegisterHistory) (starts : StartsWith all front) (no_stamp : moves_of 0 front ≡ []) (later : StartsWith front seen) where
  -- the first lines, and then others
  pub desked-both : (before middle after : Standing) → moves_of (seat_of number) seen ≡ middle.held.own → before.read ≡ reading_start → before.held.own ≡ [] → before.held.state ≡ desk_start first → Pauses number true before middle → EndsEarly number false e middle after
      → (d : DeskedFrom number e first all before after) × (d.2.front ≡ front)
  desked-both before middle after listed unread unused begins p x =
      let w = p.works in let r = x.ends in
      let s1 = middle.held.state in let s2 = after.held.state in
      let w0 = before.held.written in let w1 = middle.held.written in let w2 = after.held.written in
      let early : middle.held.own ≡ moves_at (seat_of number) w.calls = w.own ∙ ap (λ l. l ++ moves_at (seat_of number) w.calls) unused in
      let lines : after.read.lines ≡ before.read.lines + length (w.handled ++ r.handled) = omega (arith, w.lines, r.lines, length-append w.handled r.handled) in
      let octets : after.read.octets ≡ before.read.octets + length (w.given ++ r.given) = omega (arith, w.octets, r.octets, length-append w.given r.given) in
      let front_is : prelude (is_several number) (w.handled ++ r.handled) ≡ w.handled = p.is_prelude r.handled in (
        (
          w.calls ++ r.calls,
          r.own ∙ ap (λ l. l ++ moves_at (seat_of number) r.calls) early ∙ sym (moves-append (seat_of number) w.calls r.calls),
          record {
            given = w.given ++ r.given;
            taken = Consumes-trans before.left middle.left after.left w.given r.given w.consumed r.consumed;
            handled = w.handled ++ r.handled;
            others = r.others;
            of_script = script-both before.read unread middle.read before.left middle.left w.given w.handled r.handled r.others w.consumed w.ahead r.parted;
            all = r.all;
            whole = omega (arith, given-append w.given r.given, w.whole, r.whole, length-append w.handled r.handled);
            few = subst (λ n. n ≤ most_lines) (all-lines before.read unread after.read (length (w.handled ++ r.handled)) lines) r.within.0;
            short = subst (λ n. n ≤ most_script) (all-octets before.read unread after.read (length (w.given ++ r.given)) octets) r.within.1;
            limited = λ is. limit-by before.read unread after.read (length (w.handled ++ r.handled)) (length (w.given ++ r.given)) lines octets (r.limited is);
            no_more = upto-both middle.read before.left middle.left after.left w.given r.given w.handled r.handled r.others w.consumed r.consumed r.parted w.upto r.no_more;
            early = w.calls;
            late = r.calls;
            early_replies = w.replies;
            late_replies = r.replies;
            middle = s1;
            last = s2;
            at_first = subst (λ ls. IsDesk (is_several number) (desk_start first) ls w.calls w.replies s1) (sym front_is) (subst (λ s. IsDesk (is_several number) s w.handled w.calls w.replies s1) begins w.is_desk);
            later = subst (λ ls. IsDesk (is_several number) s1 ls r.calls r.replies s2) (sym (ap (λ (ls : List (List ℕ)). drop (length ls) (w.handled ++ r.handled)) front_is ∙ drop-append_seam w.handled r.handled)) r.is_desk;
            entered = refl;
            tail = r.tail;
            by_end = r.by_end;
            is_tail = tail-both before.read unread number e middle.read before.left middle.left w.given r.tail w.consumed w.limit r.is_tail;
            told = subst (WritesUnless (is_reply_fault e) w0 w2) (sym (append_assoc (desk_text number w.replies) (desk_text number r.replies) r.tail) ∙ ap (λ t. t ++ r.tail) (sym (text-append number w.replies r.replies)))
                (gives-behind (is_reply_fault e) (desk_text number w.replies) (desk_text number r.replies ++ r.tail) w0 w1 w2 (subst (Appends w0 w1) w.told p.printed) r.told);
            fails_at = λ is. fails-behind number w.replies r.replies r.others r.tail w0 w1 w2 (subst (Appends w0 w1) w.told p.printed) (r.fails_at is);
            front = front;
            starts = starts;
            no_stamp = no_stamp;
            before = in-front (seat_of number) front seen middle.held.own w.calls later listed early;
          },
        ),
        refl,
      )

  -- the script ended before a `go`
  pub desked-early : (before after : Standing) → moves_of (seat_of number) seen ≡ after.held.own → before.read ≡ reading_start → before.held.own ≡ [] → before.held.state ≡ desk_start first → EndsEarly number true e before after
      → (d : DeskedFrom number e first all before after) × (d.2.front ≡ front)
  desked-early before after listed unread unused begins x =
      let r = x.ends in
      let s1 = after.held.state in
      let early : after.held.own ≡ moves_at (seat_of number) r.calls = r.own ∙ ap (λ l. l ++ moves_at (seat_of number) r.calls) unused in
      let front_is : prelude (is_several number) r.handled ≡ r.handled = x.is_prelude refl in (
        (
          r.calls,
          early,
          record {
            given = r.given;
            taken = r.consumed;
            handled = r.handled;
            others = r.others;
            of_script = script-one before.read unread before.left r.handled r.others r.parted;
            all = r.all;
            whole = r.whole;
            few = subst (λ n. n ≤ most_lines) (all-lines before.read unread after.read (length r.handled) r.lines) r.within.0;
            short = subst (λ n. n ≤ most_script) (all-octets before.read unread after.read (length r.given) r.octets) r.within.1;
            limited = λ is. limit-by before.read unread after.read (length r.handled) (length r.given) r.lines r.octets (r.limited is);
            no_more = r.no_more;
            early = r.calls;
            late = [];
            early_replies = r.replies;
            late_replies = [];
            middle = s1;
            last = s1;
            at_first = subst (λ ls. IsDesk (is_several number) (desk_start first) ls r.calls r.replies s1) (sym front_is) (subst (λ s. IsDesk (is_several number) s r.handled r.calls r.replies s1) begins r.is_desk);
            later = subst (λ ls. IsDesk (is_several number) s1 ls [] [] s1) (sym (ap (λ (ls : List (List ℕ)). drop (length ls) r.handled) front_is ∙ drop-length r.handled)) (desk-none (is_several number) s1);
            entered = sym (append-nil r.calls);
            tail = r.tail;
            by_end = r.by_end;
            is_tail = tail-one before.read unread number e before.left r.tail r.is_tail;
            told = subst (λ rs. WritesUnless (is_reply_fault e) before.held.written after.held.written (desk_text number rs ++ r.tail)) (sym (append-nil r.replies)) r.told;
            fails_at = λ is. subst (λ rs. FailsAt number rs r.others r.tail before.held.written after.held.written) (sym (append-nil r.replies)) (r.fails_at is);
            front = front;
            starts = starts;
            no_stamp = no_stamp;
            before = in-front (seat_of number) front seen after.held.own r.calls later listed early;
          },
        ),
        refl,
      )
