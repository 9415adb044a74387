use Rattle.std.proofs.Common.{◌≡◌, ◌∙◌, ◌+◌, ◌*◌, ℕ, true, [], ◌∷◌, None, refl, subst, arith}
use Rattle.std.proofs.lemmas.Bool.{ne_eqb, lt-ltb}
use Rattle.layout_plan.proofs.ReadFacts.{reads-value, pushed}
use Rattle.layout_plan.proofs.SpanFacts.{reads-only}
use Rattle.layout_plan.specs.Readings.{Reads}
use Rattle.layout_plan.specs.Spans.{span_places}
use Rattle.layout_plan.specs.Turns.{Turns, turns}
use Rattle.layout_plan.proofs.span.Span.read.Goals as goal

pub returns-clause-reads : goal.returns-clause-reads
returns-clause-reads c =
    let first : ℕ = 8 * c.self.inside.octet + c.self.inside.bit in
    let kept : Turns = record { name = c.self.inside.name; first = first; step = c.self.inside.step; count = turns c.self.inside.count; shape = c.self.inside.shape } in
    let one : turns c.self.inside.count ≡ 1 = rw c.if-self-eq0.true refl in
    let room : c.push.result ≡ true = c.push.ensures.room ∙ lt-ltb _ _ c.if-values-lt-MOST_VALUES.true in
    let here : Reads c.args.packet.now (record { name = kept.name; at = first; shape = kept.shape } ∷ []) None c.args.values.now c.push.new.self = λ rest.
    reads-value _ _ _ _ _ (ne_eqb _ _ (λ e. omega (arith, e, c.if-values-lt-MOST_VALUES.true))) c.in-Some.ensures.inside ∙ pushed _ _ _ _ _ _ _ _ rest room c.push.ensures.taken c.push.ensures.used c.in-Some.ensures.value in
    subst (λ (span : Turns). Reads c.args.packet.now (span_places span) None c.args.values.now c.push.new.self) c.self.view_is
    (reads-only c.args.packet.now kept first None c.args.values.now c.push.new.self one refl here)
