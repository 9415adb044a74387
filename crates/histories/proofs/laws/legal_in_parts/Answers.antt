use Rattle.histories.proofs.HistoryFacts.{IsLegal-front, IsLegal-rest, IsLegal-append}
use Rattle.histories.proofs.laws.legal_in_parts.Goals as goal

pub returns : goal.returns
returns g c = λ reply after state front rest. (
  (λ legal. (IsLegal-front after reply state front rest legal, IsLegal-rest after reply state front rest legal)),
  (λ both. IsLegal-append after reply state front rest both.0 both.1),
)
