use Rattle.histories.proofs.HistoryFacts.{state_after-append}
use Rattle.histories.proofs.laws.state_in_parts.Goals as goal

pub returns : goal.returns
returns g c = λ after state front rest. state_after-append after state front rest
