use Rattle.bit_field.proofs.SumFacts.{bits-sum}
use Rattle.bit_field.proofs.laws.bits_are_a_sum.Goals as goal

pub returns : goal.returns
returns c = bits-sum
