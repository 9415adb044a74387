-- Lines that ask for packets, one after the other.
use Rattle.std.proofs.Common.{◌≡◌, ◌∙◌, ℕ, suc, ◌+◌, ◌≤◌, Bool, true, false, List, [], ◌∷◌, ◌++◌, length, take, Option, Some, None, refl, sym, ap, subst, append_assoc, append-nil, length-append, zero-add, arith, inl, inr}
use Rattle.std.specs.Prelude.{IfSome, OnErr, Result, Ok, Err}
use Rattle.std.specs.Io.KnownBytes.{Appends, Consumes}
use Rattle.std.specs.Str.Lines.{strip_carriage_return}
use Rattle.std.proofs.KnownBytes.{Appends-trans, Appends-nil, Consumes-trans, Consumes-nil}
use Rattle.std.proofs.lemmas.Bool.{cases_Bool}
use Rattle.std.proofs.lemmas.List.{take_at}
use Rattle.std.proofs.lemmas.List.Elements.{All-nil}
use Rattle.tm_io.specs.Octets.{AppendsPrefix, WritesUnless}
use Rattle.build_rules.specs.declared.fault.BuildFault.{BuildFault}
use Rattle.build_rules.specs.Asks.{Answered, answer_to, answered, asked_in, behind_answer}
use Rattle.desk_lines.specs.ToCome.{Reading, meets_limit, reading_start, still}
use Rattle.desk_lines.proofs.ToComeFacts.{ahead-more, ahead-none, limit-more, limit-none, limit-start, still-start}
use Rattle.desk_lines.proofs.GivenFacts.{given-append, given-line, given-none, upto-more, upto-none, upto-part}
use Rattle.desk_lines.specs.Given.{IsUpTo, lines_given}
use Rattle.desk_lines.specs.Gives.{NoneComes, TakesLine, TakesPart}
use Rattle.mib_model.specs.declared.database.Database.{Database}
use Rattle.run_model.specs.DeskLines.{is_comment}
use Rattle.mib_model.specs.Lines.{is_feed}
use Rattle.run_model.specs.Script.{reaches_limit, script}
use Rattle.mibtm_build.specs.declared.code.BuildCode.{BuildCode}
use Rattle.mibtm_build.specs.declared.code.BuildCode.TheVariants as code
use Rattle.mibtm_build.specs.Runs.{AreAll, AreAnswered, Comes, ComesTo, Fails, Goes, HandlesNext, IsEnd, Ran, Standing, Stops, is_out_fault, unanswered}

abbrev pub Known : Type 0
Known = Option (List ℕ)

-- ---- lines in parts

-- what lines come to with others behind them, which don't count behind one that was refused
abbrev joined : Answered → Answered → Answered
joined (packets, None) more = (packets ++ more.0, more.1)
joined (packets, Some fault) more = (packets, Some fault)

joined-behind : (place : ℕ) (r : Result (List ℕ) BuildFault) (came more : Answered) → behind_answer place r (joined came more) ≡ joined (behind_answer place r came) more
joined-behind place (Ok packet) (packets, None) more = ap (λ (p : List ℕ). (p, more.1)) (sym (append_assoc packet packets more.0))
joined-behind place (Ok packet) (packets, Some fault) more = refl
joined-behind place (Err fault) came more = refl

answered-parts : (db : Database) (place : ℕ) (lines more : List (List ℕ)) → answered db place (lines ++ more) ≡ joined (answered db place lines) (answered db (place + length lines) more)
unfolding answered
answered-parts db place [] more = let none : place ≡ place + length {A = List ℕ} [] = omega arith in ap (λ (n : ℕ). answered db n more) none
answered-parts db place (line ∷ lines) more =
    let rest = answered-parts db (place + 1) lines more in
    let place_is : place + 1 + length lines ≡ place + length (line ∷ lines) = omega arith in
    let rest' = subst (λ (n : ℕ). answered db (place + 1) (lines ++ more) ≡ joined (answered db (place + 1) lines) (answered db n more)) place_is rest in
    elim (cases_Bool (is_comment (strip_carriage_return line))) [
      | inl is ↦ rw is rest'
      | inr not ↦ rw not (ap (behind_answer place (answer_to db (asked_in line))) rest'
          ∙ joined-behind place (answer_to db (asked_in line)) (answered db (place + 1) lines) (answered db (place + length (line ∷ lines)) more))
    ]

-- lines that had their packets, and one more
pub answered-more : (db : Database) (place : ℕ) (lines : List (List ℕ)) (line packets octets : List ℕ) (end : Option BuildFault) → answered db place lines ≡ (packets, None) → ComesTo db line octets end
    → answered db place (lines ++ line ∷ []) ≡ (packets ++ octets, Rattle.std.specs.Prelude.option_map (λ (fault : BuildFault). (place + length lines, fault)) end)
answered-more db place lines line packets octets None are comes =
    answered-parts db place lines (line ∷ []) ∙ rw (are, comes (place + length lines)) refl
answered-more db place lines line packets octets (Some fault) are comes =
    answered-parts db place lines (line ∷ []) ∙ rw (are, comes (place + length lines)) refl

-- ---- what is still to come

-- the lines of a script, and those of them that are still to come
parted : (left place : Known) (mid : Reading) (given : List ℕ) (lines : List (List ℕ)) → Consumes left place given
    → IfSome left (λ l. IfSome place (λ b. still reading_start l ≡ lines ++ still mid b)) → (others : List (List ℕ)) × IfSome left (λ octets. script octets ≡ lines ++ others)
parted None place mid given lines taken ahead = ([], tt)
parted (Some l) None mid given lines taken ahead = absurd taken
parted (Some l) (Some b) mid given lines taken ahead = (still mid b, sym (still-start l) ∙ ahead)

-- none is
parted-none : (limit : Bool) (left place : Known) (mid : Reading) (given : List ℕ) (lines : List (List ℕ)) → Consumes left place given → IfSome place (NoneComes limit mid)
    → IfSome left (λ l. IfSome place (λ b. still reading_start l ≡ lines ++ still mid b)) → IfSome left (λ octets. script octets ≡ lines ++ [])
parted-none limit None place mid given lines taken none ahead = tt
parted-none limit (Some l) None mid given lines taken none ahead = absurd taken
parted-none limit (Some l) (Some b) mid given lines taken none ahead = sym (still-start l) ∙ (ahead ∙ ap (λ ls. lines ++ ls) none.none)

limit-told : (limit : Bool) (left place : Known) (mid : Reading) (given : List ℕ) → Consumes left place given → IfSome place (NoneComes limit mid)
    → IfSome left (λ l. IfSome place (λ b. meets_limit reading_start l ≡ meets_limit mid b)) → IfSome left (λ octets. reaches_limit octets ≡ limit)
limit-told limit None place mid given taken none same = tt
limit-told limit (Some l) None mid given taken none same = absurd taken
limit-told limit (Some l) (Some b) mid given taken none same = sym (limit-start l) ∙ (same ∙ none.limited)

-- ---- texts in parts

-- a first part of a text behind another
part-behind : (text tail : List ℕ) (old mid new : Known) → Appends old mid text → AppendsPrefix mid new tail → AppendsPrefix old new (text ++ tail)
part-behind text tail old mid new wrote (count, printed) =
    (length text + count, subst (Appends old new) (sym (take-behind text tail count)) (Appends-trans old mid new text (take count tail) wrote printed))
  where
    take-behind : (xs ys : List ℕ) (n : ℕ) → take (length xs + n) (xs ++ ys) ≡ xs ++ take n ys
    take-behind [] ys n = ap (λ k. take k ys) (zero-add n)
    take-behind (x ∷ xs) ys n = let next : suc (length xs) + n ≡ suc (length xs + n) = omega arith in rw next (ap (λ t. x ∷ t) (take-behind xs ys n))

-- ---- a run that goes on

pub goes-start : (db : Database) (s : Standing) → Goes db s s
unfolding answered
goes-start db s = record {
  lines = [];
  packets = [];
  answers = refl;
  counted = omega arith;
  given = [];
  consumed = Consumes-nil s.left;
  whole = let none = given-none [] (All-nil (λ octet. is_feed octet ≡ false)) in omega (arith, none);
  upto = upto-none s.left;
  ahead = ahead-none s.read s.left;
  limit = limit-none s.read s.left;
  printed = Appends-nil s.written;
}

module _ (db : Database) (before middle after : Standing) (g : Goes db before middle) where
  line-place : (came : Option BuildCode) (h : HandlesNext came db middle after) → middle.read.lines + 1 ≡ before.read.lines + 1 + length g.lines
  line-place came h = omega (arith, g.counted)

  whole-more : (line taken : List ℕ) → lines_given taken ≤ 1 → lines_given (g.given ++ taken) ≤ length (g.lines ++ line ∷ [])
  whole-more line taken one = omega (arith, given-append g.given taken, g.whole, one, length-append g.lines (line ∷ []))

  pub goes-more : HandlesNext None db middle after → Goes db before after
  goes-more h =
      let (octets, comes, printed) = h.handles in
      let t = h.takes in record {
        lines = g.lines ++ h.line ∷ [];
        packets = g.packets ++ octets;
        answers = answered-more db (before.read.lines + 1) g.lines h.line g.packets octets None g.answers comes;
        counted = let now : after.read.lines ≡ middle.read.lines + 1 = ap (λ (r : Reading). r.lines) t.counted in omega (arith, now, g.counted, length-append g.lines (h.line ∷ []));
        given = g.given ++ t.taken;
        consumed = Consumes-trans before.left middle.left after.left g.given t.taken g.consumed t.consumed;
        whole = whole-more h.line t.taken (given-line h.line t.taken after.left t.no_feed t.is_taken);
        upto = upto-more middle.read after.read before.left middle.left after.left g.given h.line g.lines g.consumed t g.upto;
        ahead = ahead-more before.read middle.read after.read before.left middle.left after.left g.given g.lines h.line g.consumed g.ahead t.first;
        limit = limit-more before.read middle.read after.read before.left middle.left after.left g.given g.consumed g.limit t.limit;
        printed = Appends-trans before.written middle.written after.written g.packets octets g.printed printed;
      }

-- ---- a run that ends

module _ (db : Database) (before middle after : Standing) (g : Goes db before middle) (starts : before.read ≡ reading_start) where
  -- it began at the first line
  all-packets : answered db 1 g.lines ≡ (g.packets, None)
  all-packets = let one : before.read.lines + 1 ≡ 1 = ap (λ (r : Reading). r.lines + 1) starts in subst (λ (n : ℕ). answered db n g.lines ≡ (g.packets, None)) one g.answers

  from-start : IfSome before.left (λ l. IfSome middle.left (λ b. still reading_start l ≡ g.lines ++ still middle.read b))
  from-start = subst (λ (r : Reading). IfSome before.left (λ l. IfSome middle.left (λ b. still r l ≡ g.lines ++ still middle.read b))) starts g.ahead

  limit-from-start : IfSome before.left (λ l. IfSome middle.left (λ b. meets_limit reading_start l ≡ meets_limit middle.read b))
  limit-from-start = subst (λ (r : Reading). IfSome before.left (λ l. IfSome middle.left (λ b. meets_limit r l ≡ meets_limit middle.read b))) starts g.limit

  counted-lines : middle.read.lines ≡ length g.lines
  counted-lines = let none : before.read.lines ≡ 0 = ap (λ (r : Reading). r.lines) starts in omega (arith, g.counted, none)

  prints : after.written ≡ middle.written → Appends before.written after.written (answered db 1 g.lines).0
  prints same = subst (λ (w : Known). Appends before.written w (answered db 1 g.lines).0) (sym same) (subst (Appends before.written middle.written) (sym (ap (λ (a : Answered). a.0) all-packets)) g.printed)

  no-refusal : (answered db 1 g.lines).1 ≡ None
  no-refusal = ap (λ (a : Answered). a.1) all-packets

  part-taken : (p : TakesPart middle.read after.read middle.left after.left) → Consumes before.left after.left (g.given ++ p.part)
  part-taken p = Consumes-trans before.left middle.left after.left g.given p.part g.consumed p.consumed

  part-whole : (p : TakesPart middle.read after.read middle.left after.left) → lines_given (g.given ++ p.part) ≤ length g.lines + 0
  part-whole p = omega (arith, given-append g.given p.part, given-none p.part p.no_feed, g.whole)

  part-upto : (p : TakesPart middle.read after.read middle.left after.left) → IfSome before.left (λ l. IsUpTo (g.given ++ p.part) after.left g.lines)
  part-upto p = upto-part before.left middle.left after.left g.given p.part g.lines g.consumed p.consumed g.upto

  -- no line is left
  stops : (limit : Bool) (c : BuildCode) → IsEnd c → is_out_fault c ≡ false → unanswered c ≡ 0 → ((came : Answered) → came.1 ≡ None → AreAnswered c came)
      → (IfSome before.left (λ octets. reaches_limit octets ≡ limit) → AreAll c [] before.left) → Stops limit middle after → Ran c db before.left after.left before.written after.written
  stops limit c is_end no_fault all_answered answers all s = record {
    is_end = is_end;
    lines = g.lines;
    others = [];
    of_script = parted-none limit before.left middle.left middle.read g.given g.lines g.consumed s.none from-start;
    all = all (limit-told limit before.left middle.left middle.read g.given g.consumed s.none limit-from-start);
    given = g.given ++ s.takes.part;
    consumed = part-taken s.takes;
    whole = subst (λ (n : ℕ). lines_given (g.given ++ s.takes.part) ≤ length g.lines + n) (sym all_answered) (part-whole s.takes);
    no_more = part-upto s.takes;
    answers = answers (answered db 1 g.lines) no-refusal;
    printed = subst (λ (b : Bool). WritesUnless b before.written after.written (answered db 1 g.lines).0) (sym no_fault) (prints s.same);
  }

  fails : Fails middle after → Ran code.DeskFault db before.left after.left before.written after.written
  fails f =
      let (others, of_script) = parted before.left middle.left middle.read g.given g.lines g.consumed from-start in record {
        is_end = tt;
        lines = g.lines;
        others = others;
        of_script = of_script;
        all = tt;
        given = g.given ++ f.takes.part;
        consumed = part-taken f.takes;
        whole = part-whole f.takes;
        no_more = part-upto f.takes;
        answers = no-refusal;
        printed = prints f.same;
      }

  -- the lines with the one that was taken last
  with-line : (line : List ℕ) → TakesLine middle.read after.read middle.left after.left line → (others : List (List ℕ)) × IfSome before.left (λ octets. script octets ≡ (g.lines ++ line ∷ []) ++ others)
  with-line line t =
      parted before.left after.left after.read (g.given ++ t.taken) (g.lines ++ line ∷ []) (Consumes-trans before.left middle.left after.left g.given t.taken g.consumed t.consumed)
      (ahead-more reading_start middle.read after.read before.left middle.left after.left g.given g.lines line g.consumed from-start t.first)

  line-given : (line : List ℕ) (t : TakesLine middle.read after.read middle.left after.left line) → lines_given (g.given ++ t.taken) ≤ length g.lines + 1
  line-given line t = omega (arith, given-append g.given t.taken, given-line line t.taken after.left t.no_feed t.is_taken, g.whole)

  line-upto : (line : List ℕ) (t : TakesLine middle.read after.read middle.left after.left line) → IfSome before.left (λ l. IsUpTo (g.given ++ t.taken) after.left (g.lines ++ line ∷ []))
  line-upto line t = upto-more middle.read after.read before.left middle.left after.left g.given line g.lines g.consumed t g.upto

  refused : (place : ℕ) (fault : BuildFault) → HandlesNext (Some (code.Refused place fault)) db middle after → Ran (code.Refused place fault) db before.left after.left before.written after.written
  refused place fault h =
      let (is_place, comes, same) = h.handles in
      let t = h.takes in
      let (others, of_script) = with-line h.line t in
      let all : answered db 1 (g.lines ++ h.line ∷ []) ≡ (g.packets ++ [], Some (1 + length g.lines, fault)) = answered-more db 1 g.lines h.line g.packets [] (Some fault) all-packets comes in
      let number : 1 + length g.lines ≡ place = omega (arith, is_place, counted-lines) in record {
        is_end = tt;
        lines = g.lines ++ h.line ∷ [];
        others = others;
        of_script = of_script;
        all = tt;
        given = g.given ++ t.taken;
        consumed = Consumes-trans before.left middle.left after.left g.given t.taken g.consumed t.consumed;
        whole = omega (arith, line-given h.line t, length-append g.lines (h.line ∷ []));
        no_more = line-upto h.line t;
        answers = ap (λ (a : Answered). a.1) all ∙ ap (λ (n : ℕ). Some (n, fault)) number;
        printed = subst (λ (w : Known). Appends before.written w (answered db 1 (g.lines ++ h.line ∷ [])).0) (sym same)
            (subst (Appends before.written middle.written) (sym (ap (λ (a : Answered). a.0) all ∙ append-nil g.packets)) g.printed);
      }

  -- the output failed
  broke : HandlesNext (Some code.OutFault) db middle after → Ran code.OutFault db before.left after.left before.written after.written
  broke h =
      let (octets, comes, part) = h.handles in
      let t = h.takes in
      let (others, of_script) = with-line h.line t in
      let all : answered db 1 (g.lines ++ h.line ∷ []) ≡ (g.packets ++ octets, None) = answered-more db 1 g.lines h.line g.packets octets None all-packets comes in record {
        is_end = tt;
        lines = g.lines ++ h.line ∷ [];
        others = others;
        of_script = of_script;
        all = tt;
        given = g.given ++ t.taken;
        consumed = Consumes-trans before.left middle.left after.left g.given t.taken g.consumed t.consumed;
        whole = omega (arith, line-given h.line t, length-append g.lines (h.line ∷ []));
        no_more = line-upto h.line t;
        answers = tt;
        printed = subst (AppendsPrefix before.written after.written) (sym (ap (λ (a : Answered). a.0) all)) (part-behind g.packets octets before.written middle.written after.written g.printed part);
      }

  wanting : HandlesNext (Some code.Want) db middle after → Ran code.Want db before.left after.left before.written after.written
  wanting h =
      let t = h.takes in
      let (others, of_script) = parted before.left middle.left middle.read g.given g.lines g.consumed from-start in record {
        is_end = tt;
        lines = g.lines;
        others = others;
        of_script = of_script;
        all = tt;
        given = g.given ++ t.taken;
        consumed = Consumes-trans before.left middle.left after.left g.given t.taken g.consumed t.consumed;
        whole = line-given h.line t;
        no_more = upto-part before.left middle.left after.left g.given t.taken g.lines g.consumed t.consumed g.upto;
        answers = no-refusal;
        printed = prints h.handles;
      }

  pub ran : (c : BuildCode) → Comes (Some c) db middle after → Ran c db before.left after.left before.written after.written
  ran code.Ok comes = stops false code.Ok tt refl refl (λ came none. none) (λ limit. (refl, limit)) comes
  ran code.Limit comes = stops true code.Limit tt refl refl (λ came none. none) (λ limit. (refl, limit)) comes
  ran code.DeskFault comes = fails comes
  ran code.OutFault comes = broke comes
  ran code.Want comes = wanting comes
  ran (code.Refused place fault) comes = refused place fault comes
  ran (code.Usage misuse) comes = absurd comes.handles
  ran (code.BadMib fault) comes = absurd comes.handles
  ran (code.NoFile input) comes = absurd comes.handles
  ran code.TablesFault comes = absurd comes.handles
  ran code.FeedFault comes = absurd comes.handles
  ran code.ReplyFault comes = absurd comes.handles

-- ---- what was written is handed on

all-is-part : (text : List ℕ) (old new : Known) → Appends old new text → AppendsPrefix old new text
all-is-part text old new wrote = (length text, subst (Appends old new) (sym (ap (take (length text)) (sym (append-nil text)) ∙ take_at text [] (length text) refl)) wrote)

part-of : (failed : Bool) (text : List ℕ) (old new : Known) → WritesUnless failed old new text → AppendsPrefix old new text
part-of false text old new wrote = all-is-part text old new wrote
part-of true text old new wrote = wrote

few-more : (c : BuildCode) → unanswered c ≤ 1
few-more (code.Usage misuse) = omega arith
few-more (code.BadMib fault) = omega arith
few-more (code.NoFile input) = omega arith
few-more (code.Refused place fault) = omega arith
few-more code.Ok = omega arith
few-more code.TablesFault = omega arith
few-more code.FeedFault = omega arith
few-more code.DeskFault = omega arith
few-more code.OutFault = omega arith
few-more code.ReplyFault = omega arith
few-more code.Limit = omega arith
few-more code.Want = omega arith

-- where handing on fails the output has failed
pub ran-broken : (c : BuildCode) (db : Database) (left behind old new : Known) → Ran c db left behind old new → Ran code.OutFault db left behind old new
ran-broken c db left behind old new r = record {
  is_end = tt;
  lines = r.lines;
  others = r.others;
  of_script = r.of_script;
  all = tt;
  given = r.given;
  consumed = r.consumed;
  whole = omega (arith, r.whole, few-more c);
  no_more = r.no_more;
  answers = tt;
  printed = part-of (is_out_fault c) (answered db 1 r.lines).0 old new r.printed;
}
