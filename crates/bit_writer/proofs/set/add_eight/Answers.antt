use Rattle.std.proofs.Common.{arith}
use Rattle.bit_writer.proofs.EightFacts.{more-in-eight}
use Rattle.bit_writer.proofs.set.add_eight.Goals as goal

pub returns : goal.returns
returns c =
    more-in-eight c.args.octets.now c.write_u64.new.buf c.eight_of.result c.args.ones (omega (arith, c.ranges.ones)) (omega (arith, c.eight_of.type_inv)) (λ k. omega (arith, c.type_inv.octets k))
    c.eight_of.ensures c.write_u64.ensures
