use Rattle.bit_field.proofs.LittleFacts.{whole-power}
use Rattle.bit_field.proofs.value.field_number.Goals as goal

pub returns-in-Little-clause-within : goal.returns-in-Little-clause-within
returns-in-Little-clause-within c = rw (whole-power c.args.width (c.requires.octets c.in-Little.is)) at c.little_at.ensures.within
