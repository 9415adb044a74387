use Rattle.std.proofs.Common.{refl}
use Rattle.histories.proofs.HistoryFacts.{IsLegal-append}
use Rattle.histories.proofs.laws.legal_with_a_move.Goals as goal

pub returns : goal.returns
returns g c = λ reply after state front seat entry legal. IsLegal-append after reply state front _ legal (refl, tt)
