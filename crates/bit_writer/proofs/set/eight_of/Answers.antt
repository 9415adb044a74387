use Rattle.std.proofs.Common.{◌∙◌, ◌-◌, ◌/◌, ◌%◌, ◌^◌, ℕ, ap, sym, arith}
use Rattle.bit_writer.proofs.EightFacts.{word-bit}
use Rattle.bit_writer.proofs.set.eight_of.Goals as goal

pub returns : goal.returns
returns c j low = ap (λ (n : ℕ). n / 2 ^ (63 - j) % 2) c.read_u64.ensures ∙ sym (word-bit c.args.octets.now (λ k. omega (arith, c.type_inv.octets k)) j low)
