use Rattle.std.proofs.Common.{◌+◌, ◌*◌, ◌-◌, ◌/◌, ◌%◌, ◌^◌, w64, arith}
use Rattle.std.proofs.lemmas.Nat.Bits.{bit_at_not}
use Rattle.bit_writer.proofs.EightFacts.{covered-bit, number-bit}
use Rattle.bit_writer.proofs.PartFacts.{ones-bit, zeros-bit}
use Rattle.bit_writer.proofs.write.Write.eight.Goals as goal

pub returns-in_ok-first-in-Big-clause-ones : goal.returns-in_ok-first-in-Big-clause-ones
returns-in_ok-first-in-Big-clause-ones c i low =
    ones-bit c.args.self.now (8 * c.in_ok-first-in-Big.first + i) (63 - i) c.field_in-bits.result c.field_in-covered.result
    (number-bit c.args.self.now c.in_ok-first-in-Big.first c.in_ok-first-in-Big.skip i c.in_ok-first-in-Big.ensures.skip low (c.field_in-bits.result / 2 ^ (63 - i) % 2) c.in-Big.is (c.field_in-bits.ensures i low))
    (covered-bit c.args.self.now c.in_ok-first-in-Big.first c.in_ok-first-in-Big.skip i c.in_ok-first-in-Big.ensures.skip low (c.field_in-covered.result / 2 ^ (63 - i) % 2) c.in_ok-first-in-Big.ensures.end (c.field_in-covered.ensures i low))

pub returns-in_ok-first-in-Big-clause-zeros : goal.returns-in_ok-first-in-Big-clause-zeros
returns-in_ok-first-in-Big-clause-zeros c i low =
    zeros-bit c.args.self.now (8 * c.in_ok-first-in-Big.first + i) (63 - i) c.field_in-bits.result c.field_in-covered.result
    (number-bit c.args.self.now c.in_ok-first-in-Big.first c.in_ok-first-in-Big.skip i c.in_ok-first-in-Big.ensures.skip low (c.field_in-bits.result / 2 ^ (63 - i) % 2) c.in-Big.is (c.field_in-bits.ensures i low))
    (covered-bit c.args.self.now c.in_ok-first-in-Big.first c.in_ok-first-in-Big.skip i c.in_ok-first-in-Big.ensures.skip low (c.field_in-covered.result / 2 ^ (63 - i) % 2) c.in_ok-first-in-Big.ensures.end (c.field_in-covered.ensures i low))
    (18446744073709551615 - c.field_in-bits.result) (bit_at_not w64 c.field_in-bits.result (63 - i) (omega arith) (omega (arith, c.ranges.octets)))
