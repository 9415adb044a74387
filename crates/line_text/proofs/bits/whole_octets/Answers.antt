use Rattle.std.proofs.Common.{◌≡◌, ◌+◌, ◌-◌, ◌*◌, ◌/◌, ℕ, ap, ◌∙◌, arith}
use Rattle.mib_model.specs.RawTexts.{octets_at}
use Rattle.line_text.proofs.OctetFacts.{octets-whole}
use Rattle.line_text.proofs.bits.whole_octets.Goals as goal

pub returns-clause-octets : goal.returns-clause-octets
returns-clause-octets c =
    let count : c.args.at / 8 + c.from.result - c.args.at / 8 ≡ c.args.count = omega (arith, c.from.ensures) in
    let place : 8 * (c.args.at / 8) ≡ c.args.at = omega arith in
    rw count (octets-whole c.args.packet.now (c.args.at / 8) c.args.count (omega arith) (λ k. omega (arith, c.type_inv.packet k)) ∙ ap (λ (at : ℕ). octets_at c.args.packet.now at c.args.count) place)
