use Rattle.bit_field.proofs.BitFacts.{first-bit}
use Rattle.bit_field.proofs.field.first_bit.Goals as goal

pub returns : goal.returns
returns c = first-bit c.args.number c.args.width c.requires.some c.requires.width c.requires.number
