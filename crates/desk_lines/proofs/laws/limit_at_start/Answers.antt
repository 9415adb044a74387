use Rattle.desk_lines.proofs.ToComeFacts.{limit-start}
use Rattle.desk_lines.proofs.laws.limit_at_start.Goals as goal

pub returns : goal.returns
returns c = limit-start
