use Rattle.std.proofs.Common.{arith}
use Rattle.bit_field.proofs.EncodingFacts.{encoding_facts}
use Rattle.bit_field.proofs.value.number_width.Goals as goal

pub overflow_cast-result : goal.overflow_cast-result
overflow_cast-result c = let facts = (encoding_facts c.args.shape c.width.ensures.encoding).0 c.requires in omega arith

pub returns-clause-some : goal.returns-clause-some
returns-clause-some c = let facts = (encoding_facts c.args.shape c.width.ensures.encoding).0 c.requires in omega arith

pub returns-clause-most : goal.returns-clause-most
returns-clause-most c = let facts = (encoding_facts c.args.shape c.width.ensures.encoding).0 c.requires in omega arith

pub returns-clause-octets : goal.returns-clause-octets
returns-clause-octets c = let whole = (encoding_facts c.args.shape c.width.ensures.encoding).1 in λ little. rw c.width.ensures.value (whole little)
