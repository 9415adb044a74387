use Rattle.std.proofs.Common.{◌≡◌, ◌+◌, ◌*◌, ◌/◌, ◌%◌, ℕ, ap, ◌∙◌, arith, length-drop}
use Rattle.std.proofs.lemmas.List.{take_rest}
use Rattle.mib_model.specs.Bits.{bits}
use Rattle.bit_field.proofs.BitFacts.{bits-drop}
use Rattle.line_text.proofs.bits.field.Goals as goal

pub number_at-requires-clause-inside : goal.number_at-requires-clause-inside
number_at-requires-clause-inside c = rw take_rest (omega (arith, c.requires.inside, c.from.ensures, length-drop (c.args.at / 8) c.args.packet.now))

pub returns-clause-value : goal.returns-clause-value
returns-clause-value c =
    let place : 8 * (c.args.at / 8) + (c.args.at % 8 + c.args.offset) ≡ c.args.at + c.args.offset = omega arith in
    (rw (c.from.ensures, take_rest) at c.number_at.ensures.value)
    ∙ (bits-drop c.args.packet.now (c.args.at / 8) (c.args.at % 8 + c.args.offset) c.args.width ∙ ap (λ (j : ℕ). bits c.args.packet.now j c.args.width) place)
