-- What lines of a desk come to between whose entries nothing comes.
use Rattle.std.proofs.Common.{◌≡◌, Bool, false, List, [], ◌∷◌, ◌++◌, Option, refl, sym, ap, ◌∙◌, subst}
use Rattle.std.specs.List.{list_any, cons_option}
use Rattle.run_model.specs.declared.register.Register.{Register}
use Rattle.run_model.specs.Desk.{DeskReply, DeskState, Way, Done, Ask}
use Rattle.run_model.specs.DeskWays.{way_of}
use Rattle.run_model.specs.DeskLines.{request_of}
use Rattle.run_model.specs.DeskRuns.{Calls, Follows, LineRun, IsChain, is_want}
use Rattle.run_model.specs.Register.{answer_to, after}
use Rattle.run_laws.specs.Desks.{AreAlone, LinesAloneDecide}
use Rattle.run_laws.proofs.DeskFacts.{cons-head, cons-tail, nil-cons, line-follows, rest_wants, calls_in, replies_in, lines_in}

-- two runs of a way from the same state, each with entries to come: they are at one state of the register again
record Alike (calls others : Calls) (reply told : Option DeskReply) (new end : DeskState) (more rest : Calls) : Type 0 where
  pub calls_same : calls ≡ others
  pub reply_same : reply ≡ told
  pub state_same : new ≡ end
  pub register : Register
  pub more_alone : AreAlone register more
  pub rest_alone : AreAlone register rest

follows-alone : (way : Way) (register : Register) (calls others : Calls) (reply told : Option DeskReply) (new end : DeskState) (more rest : Calls)
    → AreAlone register (calls ++ more) → AreAlone register (others ++ rest) → Follows way calls reply new → Follows way others told end
    → Alike calls others reply told new end more rest
follows-alone (Done r s) register calls others reply told new end more rest legal lawful (none, is, at) (nothing, so, too) = record {
  calls_same = none ∙ sym nothing;
  reply_same = is ∙ sym so;
  state_same = at ∙ sym too;
  register = register;
  more_alone = subst (λ cs. AreAlone register (cs ++ more)) none legal;
  rest_alone = subst (λ cs. AreAlone register (cs ++ rest)) nothing lawful;
}
follows-alone (Ask e on) register [] others reply told new end more rest legal lawful gone went = absurd gone
follows-alone (Ask e on) register (c ∷ calls) [] reply told new end more rest legal lawful gone went = absurd went
follows-alone (Ask e on) register (c ∷ calls) (d ∷ others) reply told new end more rest (answered, legal) (replied, lawful) (first, gone) (second, went) =
    let entry : c.0 ≡ d.0 = first ∙ sym second in
    let answer : c.1 ≡ d.1 = answered ∙ ap (λ x. answer_to register x) entry ∙ sym replied in
    let then : Follows (on c.1) others told end = subst (λ a. Follows (on a) others told end) (sym answer) went in
    let on_same : AreAlone (after register c.0) (others ++ rest) = subst (λ x. AreAlone (after register x) (others ++ rest)) (sym entry) lawful in
    let s = follows-alone (on c.1) (after register c.0) calls others reply told new end more rest legal on_same gone then in record {
      calls_same = (λ i. (entry i, answer i) ∷ s.calls_same i);
      reply_same = s.reply_same;
      state_same = s.state_same;
      register = s.register;
      more_alone = s.more_alone;
      rest_alone = s.rest_alone;
    }

module _ (several : Bool) where
  chain-alone : (register : Register) (old : DeskState) (runs others : List LineRun) (new end : DeskState) → lines_in runs ≡ lines_in others
      → list_any is_want (replies_in runs) ≡ false → list_any is_want (replies_in others) ≡ false
      → AreAlone register (calls_in runs) → AreAlone register (calls_in others)
      → IsChain several old runs new → IsChain several old others end → (calls_in runs ≡ calls_in others) × (replies_in runs ≡ replies_in others) × (new ≡ end)
  chain-alone register old [] [] new end lines none nothing legal lawful is at = (refl, refl, is ∙ sym at)
  chain-alone register old [] (o ∷ os) new end lines none nothing legal lawful is at = absurd (nil-cons o.line (lines_in os) lines)
  chain-alone register old (r ∷ rs) [] new end lines none nothing legal lawful is at = absurd (nil-cons r.line (lines_in rs) (sym lines))
  chain-alone register old (r ∷ rs) (o ∷ os) new end lines none nothing legal lawful (from, line, is) (start, next, at) =
      let goes = line-follows several r (replies_in rs) none line in
      let went = line-follows several o (replies_in os) nothing next in
      let texts : o.line ≡ r.line = sym (cons-head r.line o.line (lines_in rs) (lines_in os) lines) in
      let states : o.old ≡ r.old = start ∙ sym from in
      let alike : Follows (way_of several r.old (request_of several r.line)) o.calls o.reply o.new =
      subst (λ l. Follows (way_of several r.old (request_of several l)) o.calls o.reply o.new) texts
      (subst (λ s. Follows (way_of several s (request_of several o.line)) o.calls o.reply o.new) states went) in
      let s = follows-alone (way_of several r.old (request_of several r.line)) register r.calls o.calls r.reply o.reply r.new o.new (calls_in rs) (calls_in os) legal lawful goes alike in
      let (calls, replies, state) = chain-alone s.register r.new rs os new end (cons-tail r.line o.line (lines_in rs) (lines_in os) lines)
      (rest_wants r.reply (replies_in rs) none) (rest_wants o.reply (replies_in os) nothing) s.more_alone s.rest_alone is
      (subst (λ from. IsChain several from os end) (sym s.state_same) at) in
      ((λ i. s.calls_same i ++ calls i), (λ i. cons_option (s.reply_same i) (replies i)), state)

pub decided : LinesAloneDecide
decided several register old lines calls others replies told new end none nothing legal lawful d e =
    let (c, r, s) = chain-alone several register old d.runs e.runs new end (d.of_lines ∙ sym e.of_lines)
    (ap (λ rs. list_any is_want rs) d.in_replies ∙ none) (ap (λ rs. list_any is_want rs) e.in_replies ∙ nothing)
    (subst (λ cs. AreAlone register cs) (sym d.in_calls) legal) (subst (λ cs. AreAlone register cs) (sym e.in_calls) lawful) d.chain e.chain in
    (sym d.in_calls ∙ c ∙ e.in_calls, sym d.in_replies ∙ r ∙ e.in_replies, s)
