use Rattle.dec_num.proofs.ZeroFacts.{leading-empty, leading-some}
use Rattle.dec_num.proofs.zeros.without_leading.Goals as goal

pub returns-then-is_empty-clause-left : goal.returns-then-is_empty-clause-left
returns-then-is_empty-clause-left c = leading-empty c.args.whole.now c.args.fraction.now c.strip_front-rest.result.now c.strip_front.result.now c.if-is_empty.ensures c.strip_front-rest.ensures.left c.strip_front.ensures.left

pub returns-else-is_empty-clause-left : goal.returns-else-is_empty-clause-left
returns-else-is_empty-clause-left c = leading-some c.args.whole.now c.args.fraction.now c.strip_front-rest.result.now c.if-is_empty.ensures c.strip_front-rest.ensures.left
