use Rattle.std.proofs.Common.{◌∙◌, sym}
use Rattle.mibtm_build.proofs.OperandFacts.{first-option, second-option, two-plain}
use Rattle.mibtm_build.proofs.inputs.plain.Goals as goal

pub returns-then-is_option : goal.returns-then-is_option
returns-then-is_option c = sym (first-option c.args.folder.now c.args.asks.now (sym c.is_option.ensures ∙ c.if-is_option.true))

pub returns-then-is_option-2 : goal.returns-then-is_option-2
returns-then-is_option-2 c =
    sym (second-option c.args.folder.now c.args.asks.now (sym c.is_option.ensures ∙ c.if-is_option.false) (sym c.is_option-2.ensures ∙ c.if-is_option-2.true))

pub returns : goal.returns
returns c = sym (two-plain c.args.folder.now c.args.asks.now (sym c.is_option.ensures ∙ c.if-is_option.false) (sym c.is_option-2.ensures ∙ c.if-is_option-2.false))
