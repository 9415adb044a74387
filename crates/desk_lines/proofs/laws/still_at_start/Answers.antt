use Rattle.desk_lines.proofs.ToComeFacts.{still-start}
use Rattle.desk_lines.proofs.laws.still_at_start.Goals as goal

pub returns : goal.returns
returns c = still-start
