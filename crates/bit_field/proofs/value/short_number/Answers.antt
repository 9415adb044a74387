use Rattle.bit_field.proofs.LittleFacts.{field-none}
use Rattle.bit_field.proofs.value.short_number.Goals as goal

pub returns-then-width-eq0 : goal.returns-then-width-eq0
returns-then-width-eq0 c = field-none c.args.order c.args.octets.now c.args.at c.args.width c.if-width-eq0.true
