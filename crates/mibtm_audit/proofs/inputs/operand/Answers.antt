use Rattle.mibtm_audit.proofs.OperandFacts.{before, behind, within}
use Rattle.mibtm_audit.proofs.inputs.operand.Goals as goal

pub returns-then-at-end : goal.returns-then-at-end
returns-then-at-end c =
    before c.args.words.now c.index-words-at.result c.as_str.result.now c.args.end c.args.at c.if-at-end.true c.requires.end c.index-words-at.is c.as_str.ensures.value

pub returns : goal.returns
returns c =
    behind c.args.words.now c.index-words-at-2.result c.as_str-2.result.now c.args.end c.args.at c.if-at-end.false c.requires.end
    (within c.args.words.now c.args.end c.args.at c.requires.end c.requires.within c.if-at-end.false) c.index-words-at-2.is c.as_str-2.ensures.value
