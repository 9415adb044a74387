use Rattle.std.proofs.Common.{◌∙◌}
use Rattle.std.proofs.lemmas.List.{take_rest}
use Rattle.bit_field.proofs.LittleFacts.{little-place}
use Rattle.bit_field.proofs.value.little_at.Goals as goal

pub returns-clause-value : goal.returns-clause-value
returns-clause-value c = (rw take_rest at c.little_behind.ensures.value) ∙ little-place c.args.octets.now c.args.at c.args.count
