use Rattle.desk_lines.proofs.LongFacts.{long-front}
use Rattle.desk_lines.proofs.laws.long_asks_as_front.Goals as goal

pub returns : goal.returns
returns c = long-front
