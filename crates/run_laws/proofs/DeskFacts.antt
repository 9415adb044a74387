-- A desk's lines in parts, and what decides them.
use Rattle.std.proofs.Common.{◌≡◌, ℕ, Bool, true, false, List, [], ◌∷◌, ◌++◌, map, length, drop, Option, Some, None, inl, inr, refl, sym, ap, ◌∙◌, subst, arith, ◌||◌, cond}
use Rattle.std.specs.List.{flat_map, filter_map, list_any, cons_option, slice_index_or}
use Rattle.std.proofs.lemmas.Grind.{flat_map-append}
use Rattle.std.proofs.lemmas.List.{map-append}
use Rattle.std.proofs.lemmas.List.Elements.{filter_map-append}
use Rattle.run_model.specs.declared.register.Answer.{Answer}
use Rattle.run_model.specs.declared.register.Entry.{Entry}
use Rattle.run_model.specs.declared.reply.Reply.TheVariants as reply
use Rattle.run_model.specs.Desk.{DeskReply, Plain, DeskState, Way, Done, Ask}
use Rattle.run_model.specs.DeskWays.{way_of}
use Rattle.run_model.specs.DeskLines.{request_of}
use Rattle.run_model.specs.DeskRuns.{Calls, Follows, LineRun, IsLine, IsChain, IsDesk, is_want}
use Rattle.run_laws.specs.Desks.{InParts, LinesDecide}

-- the first items and the other items of lists that are equal
pub cons-head : {A : Type 0} (x y : A) (xs ys : List A) → x ∷ xs ≡ y ∷ ys → x ≡ y
cons-head x y xs ys same = ap (λ l. slice_index_or l 0 x) same

pub cons-tail : {A : Type 0} (x y : A) (xs ys : List A) → x ∷ xs ≡ y ∷ ys → xs ≡ ys
cons-tail x y xs ys same = ap (λ l. drop 1 l) same

pub nil-cons : {A : Type 0} (x : A) (xs : List A) → [] ≡ x ∷ xs → ⊥
nil-cons x xs same = omega (arith, ap length same)

module _ (several : Bool) where
  chain-joined : (old middle new : DeskState) (front runs : List LineRun) → IsChain several old front middle → IsChain several middle runs new → IsChain several old (front ++ runs) new
  chain-joined old middle new [] runs is more = subst (λ s. IsChain several s runs new) is more
  chain-joined old middle new (run ∷ front) runs (at, line, first) more = (at, line, chain-joined run.new middle new front runs first more)

  -- runs of the first lines, and of the others
  record Cut (old : DeskState) (front lines : List (List ℕ)) (runs : List LineRun) (new : DeskState) : Type 0 where
    pub first : List LineRun
    pub more : List LineRun
    pub middle : DeskState
    pub whole : first ++ more ≡ runs
    pub of_front : map (λ run. run.line) first ≡ front
    pub of_lines : map (λ run. run.line) more ≡ lines
    pub first_chain : IsChain several old first middle
    pub more_chain : IsChain several middle more new

  cut : (old : DeskState) (front lines : List (List ℕ)) (runs : List LineRun) (new : DeskState) → map (λ run. run.line) runs ≡ front ++ lines → IsChain several old runs new → Cut old front lines runs new
  cut old [] lines runs new of chain = record { first = []; more = runs; middle = old; whole = refl; of_front = refl; of_lines = of; first_chain = refl; more_chain = chain }
  cut old (line ∷ front) lines [] new of chain = absurd (nil-cons line (front ++ lines) of)
  cut old (line ∷ front) lines (run ∷ runs) new of (at, is, chain) =
      let c = cut run.new front lines runs new (cons-tail run.line line (map (λ r. r.line) runs) (front ++ lines) of) chain in record {
        first = run ∷ c.first;
        more = c.more;
        middle = c.middle;
        whole = ap (λ rs. run ∷ rs) c.whole;
        of_front = (λ i. cons-head run.line line (map (λ r. r.line) runs) (front ++ lines) of i ∷ c.of_front i);
        of_lines = c.of_lines;
        first_chain = (at, is, c.first_chain);
        more_chain = c.more_chain;
      }

  pub split : (old : DeskState) (front lines : List (List ℕ)) (calls : Calls) (replies : List DeskReply) (new : DeskState) → IsDesk several old (front ++ lines) calls replies new → InParts several old front lines calls replies new
  split old front lines calls replies new d =
      let c = cut old front lines d.runs new d.of_lines d.chain in record {
        middle = c.middle;
        first_calls = flat_map (λ run. run.calls) c.first;
        more_calls = flat_map (λ run. run.calls) c.more;
        first_replies = filter_map (λ run. run.reply) c.first;
        more_replies = filter_map (λ run. run.reply) c.more;
        first = record { runs = c.first; of_lines = c.of_front; chain = c.first_chain; in_calls = refl; in_replies = refl };
        more = record { runs = c.more; of_lines = c.of_lines; chain = c.more_chain; in_calls = refl; in_replies = refl };
        in_calls = sym (flat_map-append (λ run. run.calls) c.first c.more) ∙ ap (λ rs. flat_map (λ (run : LineRun). run.calls) rs) c.whole ∙ d.in_calls;
        in_replies = sym (filter_map-append (λ run. run.reply) c.first c.more) ∙ ap (λ rs. filter_map (λ (run : LineRun). run.reply) rs) c.whole ∙ d.in_replies;
      }

  pub joined : (old : DeskState) (front lines : List (List ℕ)) (calls : Calls) (replies : List DeskReply) (new : DeskState) → InParts several old front lines calls replies new → IsDesk several old (front ++ lines) calls replies new
  joined old front lines calls replies new p = record {
    runs = p.first.runs ++ p.more.runs;
    of_lines = map-append (λ run. run.line) p.first.runs p.more.runs ∙ (λ i. p.first.of_lines i ++ p.more.of_lines i);
    chain = chain-joined old p.middle new p.first.runs p.more.runs p.first.chain p.more.chain;
    in_calls = flat_map-append (λ run. run.calls) p.first.runs p.more.runs ∙ (λ i. p.first.in_calls i ++ p.more.in_calls i) ∙ p.in_calls;
    in_replies = filter_map-append (λ run. run.reply) p.first.runs p.more.runs ∙ (λ i. p.first.in_replies i ++ p.more.in_replies i) ∙ p.in_replies;
  }

-- the answers to entries
answers : Calls → List Answer
answers calls = map (λ call. call.1) calls

-- two runs of a way from the same state
record Alike (calls others : Calls) (reply told : Option DeskReply) (new end : DeskState) (more rest : List Answer) : Type 0 where
  pub calls_same : calls ≡ others
  pub reply_same : reply ≡ told
  pub state_same : new ≡ end
  pub rest_same : more ≡ rest

follows-same : (way : Way) (calls others : Calls) (reply told : Option DeskReply) (new end : DeskState) (more rest : List Answer)
    → answers calls ++ more ≡ answers others ++ rest → Follows way calls reply new → Follows way others told end → Alike calls others reply told new end more rest
unfolding answers
follows-same (Done r s) calls others reply told new end more rest same (none, is, at) (nothing, so, too) = record {
  calls_same = none ∙ sym nothing;
  reply_same = is ∙ sym so;
  state_same = at ∙ sym too;
  rest_same = sym (ap (λ cs. answers cs ++ more) none) ∙ same ∙ ap (λ cs. answers cs ++ rest) nothing;
}
follows-same (Ask e on) [] others reply told new end more rest same gone went = absurd gone
follows-same (Ask e on) (c ∷ calls) [] reply told new end more rest same gone went = absurd went
follows-same (Ask e on) (c ∷ calls) (d ∷ others) reply told new end more rest same (first, gone) (second, went) =
    let answer : c.1 ≡ d.1 = cons-head c.1 d.1 (answers calls ++ more) (answers others ++ rest) same in
    let then : Follows (on c.1) others told end = subst (λ a. Follows (on a) others told end) (sym answer) went in
    let s = follows-same (on c.1) calls others reply told new end more rest (cons-tail c.1 d.1 (answers calls ++ more) (answers others ++ rest) same) gone then in record {
      calls_same = (λ i. ((first ∙ sym second) i, answer i) ∷ s.calls_same i);
      reply_same = s.reply_same;
      state_same = s.state_same;
      rest_same = s.rest_same;
    }

-- a reply WANT among others
true-false : true ≡ false → ⊥
true-false h = subst (λ b. cond b (Unit {0}) ⊥) h tt

or_right : (a b : Bool) → (a || b) ≡ false → b ≡ false
or_right true b h = absurd (true-false h)
or_right false b h = h

pub rest_wants : (given : Option DeskReply) (rest : List DeskReply) → list_any is_want (cons_option given rest) ≡ false → list_any is_want rest ≡ false
rest_wants None rest h = h
rest_wants (Some r) rest h = or_right (is_want r) (list_any is_want rest) h

wants_not : (given : Option DeskReply) (rest : List DeskReply) → given ≡ Some (Plain reply.Want) → list_any is_want (cons_option given rest) ≡ false → ⊥
wants_not given rest is h = true-false (subst (λ g. list_any is_want (cons_option g rest) ≡ false) is h)

-- what lines came to
abbrev pub calls_in : List LineRun → Calls
calls_in runs = flat_map (λ run. run.calls) runs

abbrev pub replies_in : List LineRun → List DeskReply
replies_in runs = filter_map (λ run. run.reply) runs

abbrev pub lines_in : List LineRun → List (List ℕ)
lines_in runs = map (λ run. run.line) runs

module _ (several : Bool) where
  -- a line that want of memory didn't refuse
  pub line-follows : (run : LineRun) (rest : List DeskReply) → list_any is_want (cons_option run.reply rest) ≡ false → IsLine several run
      → Follows (way_of several run.old (request_of several run.line)) run.calls run.reply run.new
  line-follows run rest none (inl goes) = goes
  line-follows run rest none (inr wants) = absurd (wants_not run.reply rest wants.told none)

  chain-same : (old : DeskState) (runs others : List LineRun) (new end : DeskState) → lines_in runs ≡ lines_in others
      → list_any is_want (replies_in runs) ≡ false → list_any is_want (replies_in others) ≡ false → answers (calls_in runs) ≡ answers (calls_in others)
      → IsChain several old runs new → IsChain several old others end → (calls_in runs ≡ calls_in others) × (replies_in runs ≡ replies_in others) × (new ≡ end)
  unfolding answers
  chain-same old [] [] new end lines none nothing same is at = (refl, refl, is ∙ sym at)
  chain-same old [] (o ∷ os) new end lines none nothing same is at = absurd (nil-cons o.line (lines_in os) lines)
  chain-same old (r ∷ rs) [] new end lines none nothing same is at = absurd (nil-cons r.line (lines_in rs) (sym lines))
  chain-same old (r ∷ rs) (o ∷ os) new end lines none nothing same (from, line, is) (start, next, at) =
      let goes = line-follows r (replies_in rs) none line in
      let went = line-follows o (replies_in os) nothing next in
      let texts : o.line ≡ r.line = sym (cons-head r.line o.line (lines_in rs) (lines_in os) lines) in
      let states : o.old ≡ r.old = start ∙ sym from in
      let alike : Follows (way_of several r.old (request_of several r.line)) o.calls o.reply o.new =
      subst (λ l. Follows (way_of several r.old (request_of several l)) o.calls o.reply o.new) texts
      (subst (λ s. Follows (way_of several s (request_of several o.line)) o.calls o.reply o.new) states went) in
      let front : answers r.calls ++ answers (calls_in rs) ≡ answers o.calls ++ answers (calls_in os) =
      sym (map-append (λ call. call.1) r.calls (calls_in rs)) ∙ same ∙ map-append (λ call. call.1) o.calls (calls_in os) in
      let s = follows-same (way_of several r.old (request_of several r.line)) r.calls o.calls r.reply o.reply r.new o.new (answers (calls_in rs)) (answers (calls_in os)) front goes alike in
      let (calls, replies, state) = chain-same r.new rs os new end (cons-tail r.line o.line (lines_in rs) (lines_in os) lines)
      (rest_wants r.reply (replies_in rs) none) (rest_wants o.reply (replies_in os) nothing) s.rest_same is
      (subst (λ from. IsChain several from os end) (sym s.state_same) at) in
      ((λ i. s.calls_same i ++ calls i), (λ i. cons_option (s.reply_same i) (replies i)), state)

pub decided : LinesDecide
unfolding answers
decided several old lines calls others replies told new end none nothing same d e =
    let (c, r, s) = chain-same several old d.runs e.runs new end (d.of_lines ∙ sym e.of_lines)
    (ap (λ rs. list_any is_want rs) d.in_replies ∙ none) (ap (λ rs. list_any is_want rs) e.in_replies ∙ nothing)
    (ap (λ cs. map (λ (call : Entry × Answer). call.1) cs) d.in_calls ∙ same ∙ ap (λ cs. map (λ (call : Entry × Answer). call.1) cs) (sym e.in_calls)) d.chain e.chain in
    (sym d.in_calls ∙ c ∙ e.in_calls, sym d.in_replies ∙ r ∙ e.in_replies, s)
