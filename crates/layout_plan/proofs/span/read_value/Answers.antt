use Rattle.std.proofs.Common.{◌≡◌, ◌∙◌, true, arith}
use Rattle.std.proofs.lemmas.Bool.{ne_eqb, lt-ltb}
use Rattle.layout_plan.proofs.ReadFacts.{reads-many, reads-short, reads-value, none-held, some-held, some-given, pushed}
use Rattle.layout_plan.proofs.span.read_value.Goals as goal

pub returns-then-values-eq-MOST_VALUES-clause-reads :
    goal.returns-then-values-eq-MOST_VALUES-clause-reads
returns-then-values-eq-MOST_VALUES-clause-reads c = λ rest.
    reads-many _ _ _ _ _ c.if-values-eq-MOST_VALUES.true

pub returns-in_default-clause-reads : goal.returns-in_default-clause-reads
returns-in_default-clause-reads c = λ rest.
    reads-short _ _ _ _ _ (ne_eqb _ _ c.if-values-eq-MOST_VALUES.false) (none-held _ _ _ c.take.ensures c.in_default.is)

pub returns-clause-reads : goal.returns-clause-reads
returns-clause-reads c = λ rest.
    let room : c.push.result ≡ true = c.push.ensures.room ∙ lt-ltb _ _ (omega (arith, c.requires.slots.used, c.if-values-eq-MOST_VALUES.false)) in
    reads-value _ _ _ _ _ (ne_eqb _ _ c.if-values-eq-MOST_VALUES.false) (some-held _ _ _ _ c.take.ensures c.in-Some.is) ∙ pushed _ _ _ _ _ _ _ _ rest room c.push.ensures.taken c.push.ensures.used (some-given _ _ _ _ c.take.ensures c.in-Some.is)
