use Rattle.bit_field.proofs.EncodingFacts.{encoding_facts}
use Rattle.bit_field.proofs.value.short_width.Goals as goal

pub returns-clause-octets : goal.returns-clause-octets
returns-clause-octets c = let whole = (encoding_facts c.args.shape c.width.ensures.encoding).1 in λ little. rw c.width.ensures.value (whole little)
