use Rattle.std.proofs.Common.{arith}
use Rattle.bit_field.proofs.EncodingFacts.{encoding_facts}
use Rattle.bit_field.proofs.fast.width_in_eight.Goals as goal

pub returns-clause-some : goal.returns-clause-some
returns-clause-some c = λ number. let facts = (encoding_facts c.args.shape c.width.ensures.encoding).0 number in omega arith
