use Rattle.std.proofs.Common.{◌∙◌, sym}
use Rattle.mibtm_build.proofs.OperandFacts.{ends-first, ends-second, ends-third, no-end, three-option, three-second}
use Rattle.mibtm_build.proofs.inputs.around_end.Goals as goal

pub returns-then-eq : goal.returns-then-eq
returns-then-eq c = sym (ends-first c.args.first.now c.args.second.now c.args.third.now (sym c.eq.ensures ∙ c.if-eq.true))

pub returns-then-is_option : goal.returns-then-is_option
returns-then-is_option c =
    sym (three-option c.args.first.now c.args.second.now c.args.third.now (sym c.eq.ensures ∙ c.if-eq.false) (sym c.is_option.ensures ∙ c.if-is_option.true))

pub returns-then-eq-2 : goal.returns-then-eq-2
returns-then-eq-2 c =
    sym (ends-second c.args.first.now c.args.second.now c.args.third.now (sym c.eq.ensures ∙ c.if-eq.false) (sym c.is_option.ensures ∙ c.if-is_option.false)
    (sym c.eq-2.ensures ∙ c.if-eq-2.true))

pub returns-then-is_option-2 : goal.returns-then-is_option-2
returns-then-is_option-2 c =
    sym (three-second c.args.first.now c.args.second.now c.args.third.now (sym c.eq.ensures ∙ c.if-eq.false) (sym c.is_option.ensures ∙ c.if-is_option.false)
    (sym c.eq-2.ensures ∙ c.if-eq-2.false) (sym c.is_option-2.ensures ∙ c.if-is_option-2.true))

pub returns-then-eq-3 : goal.returns-then-eq-3
returns-then-eq-3 c =
    sym (ends-third c.args.first.now c.args.second.now c.args.third.now (sym c.eq.ensures ∙ c.if-eq.false) (sym c.is_option.ensures ∙ c.if-is_option.false)
    (sym c.eq-2.ensures ∙ c.if-eq-2.false) (sym c.is_option-2.ensures ∙ c.if-is_option-2.false) (sym c.eq-3.ensures ∙ c.if-eq-3.true))

pub returns : goal.returns
returns c =
    sym (no-end c.args.first.now c.args.second.now c.args.third.now (sym c.eq.ensures ∙ c.if-eq.false) (sym c.is_option.ensures ∙ c.if-is_option.false)
    (sym c.eq-2.ensures ∙ c.if-eq-2.false) (sym c.is_option-2.ensures ∙ c.if-is_option-2.false) (sym c.eq-3.ensures ∙ c.if-eq-3.false))
