-- A script, line by line.
use Rattle.std.proofs.Common.{◌≡◌, ◌≤◌, ◌+◌, ℕ, Bool, true, false, cond, List, [], ◌∷◌, ◌++◌, length, Option, Some, None, refl, sym, ap, ◌∙◌, subst, append_assoc, append-nil, length-append, arith, inl, inr}
use Rattle.std.specs.Prelude.{IfSome}
use Rattle.std.specs.Option.{option_to_list}
use Rattle.std.specs.Io.KnownBytes.{Appends, Consumes}
use Rattle.std.proofs.KnownBytes.{Appends-trans, Appends-nil, Consumes-trans, Consumes-nil}
use Rattle.std.proofs.lemmas.Bool.{false≢true}
use Rattle.std.proofs.lemmas.List.Elements.{All-nil}
use Rattle.tm_io.specs.Octets.{AppendsPrefix, WritesUnless}
use Rattle.decode_session.proofs.FinishFacts.{part-longer, part-behind}
use Rattle.desk_lines.specs.ToCome.{Reading, IsWithin, still, meets_limit}
use Rattle.desk_lines.specs.Given.{lines_given}
use Rattle.desk_lines.specs.Gives.{TakesPart, NoneComes}
use Rattle.desk_lines.proofs.ToComeFacts.{ahead-more, ahead-none, limit-more, limit-none}
use Rattle.desk_lines.proofs.GivenFacts.{given-append, given-line, given-none, upto-more, upto-none, upto-part}
use Rattle.live_desk.specs.declared.desk_end.DeskEnd.{DeskEnd}
use Rattle.live_desk.specs.declared.desk_end.DeskEnd.TheVariants as end
use Rattle.live_desk.specs.declared.line.Came.TheVariants as came
use Rattle.live_desk.specs.Lines.{Comes, Fails, HandlesNext, Stops}
use Rattle.live_desk.specs.DeskEnds.{is_reply_fault, limit_line_at}
use Rattle.live_desk.specs.Operators.{is_several, seat_of}
use Rattle.live_desk.specs.Scripts.{Ends, EndsEarly, FailsAt, IsHandled, IsTail, Pauses, Working, Works, tail_at}
use Rattle.live_desk.specs.Standing.{Standing}
use Rattle.live_desk.proofs.LineFacts.{Known, desk-append, desk-none, desk-one, moves-append, text-append, text-none}
use Rattle.desk.specs.Handling.{moves_at}
use Rattle.run_model.specs.Desk.{DeskReply}
use Rattle.run_model.specs.DeskLines.{request_of}
use Rattle.run_model.specs.DeskRuns.{IsDesk, is_go, prelude}
use Rattle.mib_model.specs.Lines.{is_feed}
use Rattle.run_model.specs.Replies.{desk_text}

-- ---- lines that were handled

works-start : (number : Option ℕ) (s : Standing) → (w : Works number [] s s) × (w.handled ≡ [])
works-start number s = (
  record {
    handled = [];
    calls = [];
    replies = [];
    own = sym (append-nil s.held.own);
    is_desk = desk-none (is_several number) s.held.state;
    given = [];
    consumed = Consumes-nil s.left;
    whole = let none = given-none [] (All-nil (λ octet. is_feed octet ≡ false)) in omega (arith, none);
    lines = omega arith;
    octets = omega arith;
    upto = upto-none s.left;
    ahead = ahead-none s.read s.left;
    limit = limit-none s.read s.left;
    told = sym (text-none number);
  },
  refl,
)

-- the text of the reply to a line
abbrev reply_of : Option ℕ → Option DeskReply → List ℕ
reply_of number given = desk_text number (option_to_list given)

pub line-counted : (number : Option ℕ) (failed go : Bool) (before after : Standing) → HandlesNext number failed go before after → after.read.lines ≡ before.read.lines + 1
line-counted number failed go before after h = ap (λ r. r.lines) h.takes.counted

module _ (number : Option ℕ) (failed go : Bool) (before middle after : Standing) (text : List ℕ) (w : Works number text before middle) (h : HandlesNext number failed go middle after) where
  works-more : (m : Works number (text ++ reply_of number h.replied.given) before after) × (m.handled ≡ w.handled ++ h.line ∷ [])
      × (m.replies ≡ w.replies ++ option_to_list h.replied.given)
  works-more =
      let more = h.replied.handles.calls in let replies = option_to_list h.replied.given in
      let s0 = before.held.state in let s1 = middle.held.state in let s2 = after.held.state in
      let own = before.held.own in (
        record {
          handled = w.handled ++ h.line ∷ [];
          calls = w.calls ++ more;
          replies = w.replies ++ replies;
          own = h.replied.handles.own ∙ ap (λ l. l ++ moves_at (seat_of number) more) w.own ∙ append_assoc own (moves_at (seat_of number) w.calls) (moves_at (seat_of number) more) ∙ ap (λ l. own ++ l) (sym (moves-append (seat_of number) w.calls more));
          is_desk = desk-append (is_several number) s0 s1 s2 w.handled (h.line ∷ []) w.calls more w.replies replies w.is_desk (desk-one (is_several number) h.line s1 s2 more h.replied.given h.replied.handles.is_line);
          given = w.given ++ h.takes.taken;
          consumed = Consumes-trans before.left middle.left after.left w.given h.takes.taken w.consumed h.takes.consumed;
          whole = omega (arith, given-append w.given h.takes.taken, w.whole, given-line h.line h.takes.taken after.left h.takes.no_feed h.takes.is_taken, length-append w.handled (h.line ∷ []));
          lines = let n = line-counted number failed go middle after h in omega (arith, n, w.lines, length-append w.handled (h.line ∷ []));
          octets = let n = ap (λ r. r.octets) h.takes.counted in omega (arith, n, w.octets, length-append w.given h.takes.taken);
          upto = upto-more middle.read after.read before.left middle.left after.left w.given h.line w.handled w.consumed h.takes w.upto;
          ahead = ahead-more before.read middle.read after.read before.left middle.left after.left w.given w.handled h.line w.consumed w.ahead h.takes.first;
          limit = limit-more before.read middle.read after.read before.left middle.left after.left w.given w.consumed w.limit h.takes.limit;
          told = ap (λ t. t ++ reply_of number h.replied.given) w.told ∙ sym (text-append number w.replies replies);
        },
        refl,
        refl,
      )

-- ---- a script that ended

-- the end by the limit is no other
is_limit : DeskEnd → Bool
is_limit end.Limit = true
is_limit end.Done = false
is_limit end.DeskFault = false
is_limit end.ReplyFault = false

done-unlimited : end.Done ≡ end.Limit → ⊥
unfolding is_limit
done-unlimited is = false≢true (ap is_limit is)

fault-unlimited : end.DeskFault ≡ end.Limit → ⊥
unfolding is_limit
fault-unlimited is = false≢true (ap is_limit is)

reply-unlimited : end.ReplyFault ≡ end.Limit → ⊥
unfolding is_limit
reply-unlimited is = false≢true (ap is_limit is)

-- there is one reply at most
one-reply : (given : Option DeskReply) → length (option_to_list given) ≤ 1
one-reply None = omega arith
one-reply (Some r) = omega arith

-- the lines that are still to come, where the script is known
others_of : Reading → Known → List (List ℕ)
others_of r None = []
others_of r (Some b) = still r b

-- the tail of the replies, where the script is known
tail_for : Option ℕ → DeskEnd → Reading → Known → List ℕ
tail_for number e r None = []
tail_for number e r (Some l) = tail_at number e (meets_limit r l)

tail-is : (number : Option ℕ) (e : DeskEnd) (r : Reading) (left : Known) → IfSome left (λ l. tail_for number e r left ≡ tail_at number e (meets_limit r l))
unfolding tail_for
tail-is number e r None = tt
tail-is number e r (Some l) = refl

-- behind a fault of the replies
either-tail : (number : Option ℕ) (limit : Bool) → IsTail number end.ReplyFault (tail_at number end.ReplyFault limit)
either-tail number true = inr refl
either-tail number false = inl refl

fault-tail : (number : Option ℕ) (r : Reading) (left : Known) → IsTail number end.ReplyFault (tail_for number end.ReplyFault r left)
unfolding tail_for
fault-tail number r None = inl refl
fault-tail number r (Some l) = either-tail number (meets_limit r l)

parted-ahead : (was now : Reading) (left behind : Known) (given : List ℕ) (handled : List (List ℕ)) → Consumes left behind given → IfSome left (λ l. IfSome behind (λ b. still was l ≡ handled ++ still now b)) → IfSome left (λ l. still was l ≡ handled ++ others_of now behind)
unfolding others_of
parted-ahead was now None behind given handled taken ahead = tt
parted-ahead was now (Some l) None given handled taken ahead = absurd taken
parted-ahead was now (Some l) (Some b) given handled taken ahead = ahead

-- none is to come
parted-none : (was now : Reading) (left place : Known) (given : List ℕ) (handled : List (List ℕ)) (limit : Bool) → Consumes left place given → IfSome left (λ l. IfSome place (λ b. still was l ≡ handled ++ still now b)) → IfSome place (NoneComes limit now)
    → IfSome left (λ l. still was l ≡ handled ++ [])
parted-none was now None place given handled limit taken ahead none = tt
parted-none was now (Some l) None given handled limit taken ahead none = absurd taken
parted-none was now (Some l) (Some p) given handled limit taken ahead none = ahead ∙ ap (λ ls. handled ++ ls) none.none

limit-known : (was now : Reading) (left place : Known) (given : List ℕ) (limit : Bool) → Consumes left place given → IfSome left (λ l. IfSome place (λ b. meets_limit was l ≡ meets_limit now b)) → IfSome place (NoneComes limit now)
    → IfSome left (λ l. meets_limit was l ≡ limit)
limit-known was now None place given limit taken met none = tt
limit-known was now (Some l) None given limit taken met none = absurd taken
limit-known was now (Some l) (Some p) given limit taken met none = met ∙ none.limited

tail-known : (number : Option ℕ) (e : DeskEnd) (was : Reading) (left : Known) (limit : Bool) → IfSome left (λ l. meets_limit was l ≡ limit) → IfSome left (λ l. tail_at number e limit ≡ tail_at number e (meets_limit was l))
tail-known number e was None limit met = tt
tail-known number e was (Some l) limit met = ap (tail_at number e) (sym met)

module _ (number : Option ℕ) (before middle after : Standing) (text : List ℕ) (w : Works number text before middle) (printed : Appends before.held.written middle.held.written text) (within : IsWithin after.read) where
  -- what was written at each of the three
  abbrev w0 : Known
  w0 = before.held.written

  abbrev w1 : Known
  w1 = middle.held.written

  abbrev w2 : Known
  w2 = after.held.written

  -- it ended with these lines handled
  abbrev Ended-as : DeskEnd → List (List ℕ) → Type 0
  Ended-as e handled = (r : Ends number e before after) × (r.handled ≡ handled)

  own-same : after.held.own ≡ middle.held.own → after.held.own ≡ before.held.own ++ moves_at (seat_of number) w.calls
  own-same same = same ∙ w.own

  desk-same : after.held.state ≡ middle.held.state → IsDesk (is_several number) before.held.state w.handled w.calls w.replies after.held.state
  desk-same same = subst (IsDesk (is_several number) before.held.state w.handled w.calls w.replies) (sym same) w.is_desk

  wrote : Appends w0 w1 (desk_text number w.replies)
  wrote = subst (Appends w0 w1) w.told printed

  taken-part : (p : TakesPart middle.read after.read middle.left after.left) → Consumes before.left after.left (w.given ++ p.part)
  taken-part p = Consumes-trans before.left middle.left after.left w.given p.part w.consumed p.consumed

  whole-part : (p : TakesPart middle.read after.read middle.left after.left) → lines_given (w.given ++ p.part) ≤ length w.handled
  whole-part p = omega (arith, given-append w.given p.part, given-none p.part p.no_feed, w.whole)

  lines-part : (p : TakesPart middle.read after.read middle.left after.left) → after.read.lines ≡ before.read.lines + length w.handled
  lines-part p = ap (λ r. r.lines) p.counted ∙ w.lines

  octets-part : (p : TakesPart middle.read after.read middle.left after.left) → after.read.octets ≡ before.read.octets + length (w.given ++ p.part)
  octets-part p = let n = ap (λ r. r.octets) p.counted in omega (arith, n, w.octets, length-append w.given p.part)

  -- none is to come
  stops : (e : DeskEnd) (failed limit : Bool) (tail : List ℕ) → IsHandled e [] → IsTail number e (tail_at number e limit) → (e ≡ end.Limit → limit ≡ true) → (s : Stops failed limit tail middle after) → WritesUnless (is_reply_fault e) w0 w2 (desk_text number w.replies ++ tail_at number e limit)
      → (is_reply_fault e ≡ true → FailsAt number w.replies [] (tail_at number e limit) w0 w2) → Ended-as e w.handled
  stops e failed limit tail all by met s told fails = (
    record {
      handled = w.handled;
      others = [];
      calls = w.calls;
      replies = w.replies;
      own = own-same s.own;
      is_desk = desk-same s.same;
      given = w.given ++ s.takes.part;
      consumed = taken-part s.takes;
      whole = whole-part s.takes;
      lines = lines-part s.takes;
      octets = octets-part s.takes;
      within = within;
      limited = λ is. s.limited (met is);
      no_more = upto-part before.left middle.left after.left w.given s.takes.part w.handled w.consumed s.takes.consumed w.upto;
      parted = parted-none before.read middle.read before.left middle.left w.given w.handled limit w.consumed w.ahead s.none;
      all = all;
      tail = tail_at number e limit;
      by_end = by;
      is_tail = tail-known number e before.read before.left limit (limit-known before.read middle.read before.left middle.left w.given limit w.consumed w.limit s.none);
      told = told;
      fails_at = fails;
    },
    refl,
  )

  ends-done : Stops false false [] middle after → Ended-as end.Done w.handled
  ends-done s = stops end.Done false false [] refl refl (λ is. absurd (done-unlimited is)) s (Appends-trans w0 w1 w2 (desk_text number w.replies) [] wrote s.told) (λ is. absurd (false≢true is))

  ends-limit : Stops false true (limit_line_at number) middle after → Ended-as end.Limit w.handled
  ends-limit s = stops end.Limit false true (limit_line_at number) refl refl (λ is. refl) s (Appends-trans w0 w1 w2 (desk_text number w.replies) (limit_line_at number) wrote s.told) (λ is. absurd (false≢true is))

  ends-unlimited : Stops true true (limit_line_at number) middle after → Ended-as end.ReplyFault w.handled
  ends-unlimited s = stops end.ReplyFault true true (limit_line_at number) tt (inr refl) (λ is. refl) s (part-behind (desk_text number w.replies) (limit_line_at number) w0 w1 w2 wrote s.told)
      (λ is. (w.replies, [], w1, wrote, inr (refl, refl, refl, s.told)))

  -- the desk failed
  ends-fault : Fails middle after → Ended-as end.DeskFault w.handled
  ends-fault f = (
    record {
      handled = w.handled;
      others = others_of middle.read middle.left;
      calls = w.calls;
      replies = w.replies;
      own = own-same f.own;
      is_desk = desk-same f.same;
      given = w.given ++ f.takes.part;
      consumed = taken-part f.takes;
      whole = whole-part f.takes;
      lines = lines-part f.takes;
      octets = octets-part f.takes;
      within = within;
      limited = λ is. absurd (fault-unlimited is);
      no_more = upto-part before.left middle.left after.left w.given f.takes.part w.handled w.consumed f.takes.consumed w.upto;
      parted = parted-ahead before.read middle.read before.left middle.left w.given w.handled w.consumed w.ahead;
      all = tt;
      tail = [];
      by_end = refl;
      is_tail = no-tail before.left;
      told = subst (Appends w0 w2) (sym (append-nil (desk_text number w.replies))) (subst (λ t. Appends w0 t (desk_text number w.replies)) (sym f.told) wrote);
      fails_at = λ is. absurd (false≢true is);
    },
    refl,
  )
    where
      no-tail : (l : Known) → IfSome l (λ octets. [] ≡ tail_at number end.DeskFault (meets_limit before.read octets))
      no-tail None = tt
      no-tail (Some octets) = refl

  -- the reply to a line was written in part
  ends-unreplied : (go : Bool) (h : HandlesNext number true go middle after) → Ended-as end.ReplyFault (w.handled ++ h.line ∷ [])
  ends-unreplied go h =
      let both = works-more number true go before middle after text w h in let m = both.0 in let tail = tail_for number end.ReplyFault before.read before.left in (
        record {
          handled = m.handled;
          others = others_of after.read after.left;
          calls = m.calls;
          replies = m.replies;
          own = m.own;
          is_desk = m.is_desk;
          given = m.given;
          consumed = m.consumed;
          whole = m.whole;
          lines = m.lines;
          octets = m.octets;
          within = within;
          limited = λ is. absurd (reply-unlimited is);
          no_more = m.upto;
          parted = parted-ahead before.read after.read before.left after.left m.given m.handled m.consumed m.ahead;
          all = tt;
          tail = tail;
          by_end = fault-tail number before.read before.left;
          is_tail = tail-is number end.ReplyFault before.read before.left;
          told = part-longer (desk_text number m.replies) tail w0 w2 (subst (AppendsPrefix w0 w2) m.told (part-behind text (reply_of number h.replied.given) w0 w1 w2 printed h.replied.told));
          fails_at = λ is. (w.replies, option_to_list h.replied.given, w1, wrote, inl (both.2, one-reply h.replied.given, h.replied.told));
        },
        both.1,
      )

-- ---- the lines up to the first `go`

-- how the lines up to the first `go` go on behind lines
abbrev GoesOn : Bool → List (List ℕ) → Type 0
GoesOn several handled = (more : List (List ℕ)) → prelude several (handled ++ more) ≡ handled ++ prelude several more

-- how they end with lines
abbrev GoesOut : Bool → List (List ℕ) → Type 0
GoesOut several handled = (more : List (List ℕ)) → prelude several (handled ++ more) ≡ handled

module _ (several : Bool) (handled : List (List ℕ)) (line : List ℕ) (go : Bool) (is : go ≡ is_go (request_of several line)) (on : GoesOn several handled) where
  next-line : (more : List (List ℕ)) → prelude several ((handled ++ line ∷ []) ++ more) ≡ handled ++ line ∷ cond go [] (prelude several more)
  next-line more = ap (prelude several) (append_assoc handled (line ∷ []) more) ∙ on (line ∷ more) ∙ ap (λ b. handled ++ line ∷ cond b [] (prelude several more)) (sym is)

  goes-on : go ≡ false → GoesOn several (handled ++ line ∷ [])
  goes-on none more = next-line more ∙ ap (λ b. handled ++ line ∷ cond b [] (prelude several more)) none ∙ sym (append_assoc handled (line ∷ []) (prelude several more))

  goes-out : go ≡ true → GoesOut several (handled ++ line ∷ [])
  goes-out some more = next-line more ∙ ap (λ b. handled ++ line ∷ cond b [] (prelude several more)) some

  -- either way these are all
  goes-by : (b : Bool) → go ≡ b → prelude several (handled ++ line ∷ []) ≡ handled ++ line ∷ []
  goes-by true some = ap (prelude several) (sym (append-nil (handled ++ line ∷ []))) ∙ goes-out some []
  goes-by false none = ap (prelude several) (sym (append-nil (handled ++ line ∷ []))) ∙ goes-on none [] ∙ append-nil (handled ++ line ∷ [])

all-go : (several : Bool) (handled : List (List ℕ)) → GoesOn several handled → prelude several handled ≡ handled
all-go several handled on = ap (prelude several) (sym (append-nil handled)) ∙ on [] ∙ append-nil handled

-- ---- a desk that works

pub working-start : (number : Option ℕ) (until_go : Bool) (s : Standing) → Working number until_go s s
working-start number until_go s =
    let start = works-start number s in
    record { text = []; works = start.0; no_go = λ until more. ap (λ ls. prelude (is_several number) (ls ++ more)) start.1 ∙ ap (λ ls. ls ++ prelude (is_several number) more) (sym start.1); printed = Appends-nil s.held.written }

module _ (number : Option ℕ) (until_go : Bool) (before middle after : Standing) (w : Working number until_go before middle) where
  -- the replies so far, and that to a line more
  prints-more : (go : Bool) (h : HandlesNext number false go middle after) → Appends before.held.written after.held.written (w.text ++ reply_of number h.replied.given)
  prints-more go h = Appends-trans before.held.written middle.held.written after.held.written w.text (reply_of number h.replied.given) w.printed h.replied.told

  -- a line more
  pub working-more : (go : Bool) → (until_go ≡ true → go ≡ false) → HandlesNext number false go middle after → Working number until_go before after
  working-more go none h =
      let m = works-more number false go before middle after w.text w.works h in
      record {
        text = w.text ++ reply_of number h.replied.given;
        works = m.0;
        no_go = λ until. subst (GoesOn (is_several number)) (sym m.1) (goes-on (is_several number) w.works.handled h.line go h.replied.is_go (w.no_go until) (none until));
        printed = prints-more go h;
      }

  -- a `go`
  pub working-pauses : (go : Bool) → until_go ≡ true → go ≡ true → HandlesNext number false go middle after → Pauses number until_go before after
  working-pauses go until some h =
      let m = works-more number false go before middle after w.text w.works h in
      record {
        waited = until;
        text = w.text ++ reply_of number h.replied.given;
        works = m.0;
        is_prelude = subst (GoesOut (is_several number)) (sym m.1) (goes-out (is_several number) w.works.handled h.line go h.replied.is_go (w.no_go until) some);
        printed = prints-more go h;
      }

  early-same : (e : DeskEnd) → (r : Ends number e before after) × (r.handled ≡ w.works.handled) → EndsEarly number until_go e before after
  early-same e r = record { ends = r.0; is_prelude = λ until. subst (λ ls. prelude (is_several number) ls ≡ ls) (sym r.1) (all-go (is_several number) w.works.handled (w.no_go until)) }

  early-line : IsWithin after.read → (go : Bool) (h : HandlesNext number true go middle after) → EndsEarly number until_go end.ReplyFault before after
  early-line within go h =
      let r = ends-unreplied number before middle after w.text w.works w.printed within go h in
      record { ends = r.0; is_prelude = λ until. subst (λ ls. prelude (is_several number) ls ≡ ls) (sym r.1) (goes-by (is_several number) w.works.handled h.line go h.replied.is_go (w.no_go until) go refl) }

  early-fault : IsWithin after.read → Comes number (came.Ended end.ReplyFault) middle after → EndsEarly number until_go end.ReplyFault before after
  early-fault within (inl (go, h)) = early-line within go h
  early-fault within (inr s) = early-same end.ReplyFault (ends-unlimited number before middle after w.text w.works w.printed within s)

  -- the end
  pub working-ends : (e : DeskEnd) → IsWithin after.read → Comes number (came.Ended e) middle after → EndsEarly number until_go e before after
  working-ends end.Done within comes = early-same end.Done (ends-done number before middle after w.text w.works w.printed within comes)
  working-ends end.Limit within comes = early-same end.Limit (ends-limit number before middle after w.text w.works w.printed within comes)
  working-ends end.DeskFault within comes = early-same end.DeskFault (ends-fault number before middle after w.text w.works w.printed within comes)
  working-ends end.ReplyFault within comes = early-fault within comes
