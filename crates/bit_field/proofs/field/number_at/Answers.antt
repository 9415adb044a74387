use Rattle.bit_field.proofs.BitFacts.{bits-none}
use Rattle.bit_field.proofs.field.number_at.Goals as goal

pub returns-then-width-eq0-clause-value : goal.returns-then-width-eq0-clause-value
returns-then-width-eq0-clause-value c = bits-none c.args.octets.now c.args.at c.args.width c.if-width-eq0.true
