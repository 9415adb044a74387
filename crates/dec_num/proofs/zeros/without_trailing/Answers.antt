use Rattle.dec_num.proofs.ZeroFacts.{trailing-empty, trailing-some}
use Rattle.dec_num.proofs.zeros.without_trailing.Goals as goal

pub returns-then-is_empty-clause-left : goal.returns-then-is_empty-clause-left
returns-then-is_empty-clause-left c = trailing-empty c.args.whole.now c.args.fraction.now c.strip_end-rest.result.now c.strip_end.result.now c.if-is_empty.ensures c.strip_end-rest.ensures.left c.strip_end.ensures.left

pub returns-else-is_empty-clause-left : goal.returns-else-is_empty-clause-left
returns-else-is_empty-clause-left c = trailing-some c.args.whole.now c.args.fraction.now c.strip_end-rest.result.now c.if-is_empty.ensures c.strip_end-rest.ensures.left
