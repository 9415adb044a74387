use Rattle.std.proofs.Common.{◌∙◌, sym}
use Rattle.mibtm_audit.proofs.OperandFacts.{named-by, other-count, refused}
use Rattle.mibtm_audit.proofs.inputs.inputs_of.Goals as goal

pub returns-then-has_option : goal.returns-then-has_option
returns-then-has_option c = sym (refused c.args.words.now c.before_end-end.result c.before_end-end.ensures.place (sym c.has_option.ensures ∙ c.if-has_option.true))

pub returns-then-count_without-ne4 : goal.returns-then-count_without-ne4
returns-then-count_without-ne4 c =
    sym (named-by c.args.words.now c.before_end-end.result c.before_end-end.ensures.place (sym c.has_option.ensures ∙ c.if-has_option.false)
    ∙ other-count _ (λ is. c.if-count_without-ne4.true (c.count_without.ensures ∙ is)))

pub returns : goal.returns
returns c =
    c.inputs_at.ensures ∙ sym (named-by c.args.words.now c.before_end-end.result c.before_end-end.ensures.place (sym c.has_option.ensures ∙ c.if-has_option.false))
