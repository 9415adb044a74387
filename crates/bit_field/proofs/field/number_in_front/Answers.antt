use Rattle.std.proofs.Common.{◌<◌, ◌-◌, ◌*◌, ◌/◌, ◌%◌, ◌^◌, ℕ, ◌∙◌, ap, sym, subst, arith}
use Rattle.bit_field.proofs.BitFacts.{bits-below, bits-moved}
use Rattle.bit_field.proofs.field.number_in_front.Goals as goal

pub returns-clause-value : goal.returns-clause-value
returns-clause-value c = ap (λ (n : ℕ). n * 2 ^ c.args.skip % 2 ^ 64 / 2 ^ (64 - c.args.width)) c.read_u64.ensures ∙ bits-moved c.args.octets.now c.args.skip c.args.width c.requires.end (λ k. omega (arith, c.type_inv.octets k))

pub returns-clause-within : goal.returns-clause-within
returns-clause-within c = subst (λ (n : ℕ). n < 2 ^ c.args.width) (sym (returns-clause-value c)) (bits-below c.args.octets.now c.args.skip c.args.width)
