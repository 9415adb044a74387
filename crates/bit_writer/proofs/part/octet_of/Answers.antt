use Rattle.std.proofs.Common.{◌≤◌, ◌*◌, ◌%◌, ℕ, sym, ap, arith}
use Rattle.bit_writer.proofs.PartFacts.{no-bit}
use Rattle.bit_writer.proofs.part.octet_of.Goals as goal

pub returns-else-others-lt8 : goal.returns-else-others-lt8
returns-else-others-lt8 c =
    let far : 64 ≤ 8 * c.args.others = omega (arith, c.if-others-lt8.false) in sym (ap (λ (n : ℕ). n % 256) (no-bit c.args.number (8 * c.args.others) (omega (arith, c.ranges.number)) far))
