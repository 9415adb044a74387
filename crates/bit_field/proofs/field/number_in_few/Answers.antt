use Rattle.std.proofs.Common.{◌≡◌, ◌+◌, ◌-◌, ◌*◌, ℕ, ◌∙◌, ap, arith}
use Rattle.byteorder.specs.Endian.{big_number}
use Rattle.bit_field.proofs.BitFacts.{bits-inside}
use Rattle.bit_field.proofs.field.number_in_few.Goals as goal

pub returns-clause-value : goal.returns-clause-value
returns-clause-value c =
    let whole : c.args.skip + c.args.width + (8 * c.div_ceil-count.result - (c.args.skip + c.args.width)) ≡ 8 * c.div_ceil-count.result = omega arith in
    let read : c.read_uint128-whole.result ≡ big_number c.div_ceil-count.result c.args.octets.now =
    c.read_uint128-whole.ensures ∙ ap (λ (n : ℕ). big_number n c.args.octets.now) c.from.ensures in
    c.field_of.ensures.value ∙ rw read
    (bits-inside c.args.octets.now c.args.skip c.args.width (8 * c.div_ceil-count.result - (c.args.skip + c.args.width)) c.div_ceil-count.result whole (λ k. omega (arith, c.type_inv.octets k)))
