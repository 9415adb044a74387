use Rattle.std.proofs.Common.{◌+◌, ◌*◌, ◌-◌, w8, arith}
use Rattle.std.proofs.lemmas.Nat.Bits.{bit_at_not}
use Rattle.bit_writer.proofs.PartFacts.{ones-bit, zeros-bit}
use Rattle.bit_writer.proofs.write.Write.part.Goals as goal

pub returns-clause-ones : goal.returns-clause-ones
returns-clause-ones c i low =
    ones-bit c.args.self.now (8 * c.args.octet + i) (7 - i) c.octet-bits.result c.covered-covered.result (c.octet-bits.ensures i low) (c.covered-covered.ensures i low)

pub returns-clause-zeros : goal.returns-clause-zeros
returns-clause-zeros c i low =
    zeros-bit c.args.self.now (8 * c.args.octet + i) (7 - i) c.octet-bits.result c.covered-covered.result (c.octet-bits.ensures i low) (c.covered-covered.ensures i low) (255 - c.octet-bits.result)
    (bit_at_not w8 c.octet-bits.result (7 - i) (omega arith) (omega arith))
