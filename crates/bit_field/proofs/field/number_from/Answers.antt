use Rattle.std.proofs.Common.{◌-◌, ◌*◌, ◌∙◌, arith}
use Rattle.std.proofs.lemmas.List.{take_rest}
use Rattle.bit_field.proofs.BitFacts.{bits-from, bits-place}
use Rattle.bit_field.proofs.field.number_from.Goals as goal

pub returns-then-skip-from-le64-clause-value : goal.returns-then-skip-from-le64-clause-value
returns-then-skip-from-le64-clause-value c =
    (rw take_rest at c.number_in_front.ensures.value) ∙ bits-from c.args.octets.now c.min-first.result (c.args.at - 8 * c.min-first.result) c.args.at c.args.width (omega (arith, c.min-first.ensures))

pub returns-clause-value : goal.returns-clause-value
returns-clause-value c = (rw take_rest at c.number_in_few.ensures.value) ∙ bits-place c.args.octets.now c.args.at c.args.width
