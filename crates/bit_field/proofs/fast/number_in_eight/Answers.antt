use Rattle.std.proofs.Common.{◌∙◌}
use Rattle.std.proofs.lemmas.List.{take_rest}
use Rattle.bit_field.proofs.BitFacts.{bits-drop}
use Rattle.bit_field.proofs.fast.number_in_eight.Goals as goal

pub returns-clause-value : goal.returns-clause-value
returns-clause-value c = (rw take_rest at c.number_in_front.ensures.value) ∙ bits-drop c.args.octets.now c.args.first c.args.skip c.args.width
