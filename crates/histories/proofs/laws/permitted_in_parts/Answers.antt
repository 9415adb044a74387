use Rattle.std.proofs.Common.{◌≡◌, true}
use Rattle.histories.proofs.HistoryFacts.{Permits-front, Permits-rest, Permits-append, IsOfSeatsBelow-front, IsOfSeatsBelow-rest, IsOfSeatsBelow-append}
use Rattle.histories.proofs.laws.permitted_in_parts.Goals as goal

pub returns-clause-permits : goal.returns-clause-permits
returns-clause-permits g c = λ may front rest. (
  (λ all. (Permits-front (λ seat entry. may seat entry ≡ true) front rest all, Permits-rest (λ seat entry. may seat entry ≡ true) front rest all)),
  (λ both. Permits-append (λ seat entry. may seat entry ≡ true) front rest both.0 both.1),
)

pub returns-clause-seats : goal.returns-clause-seats
returns-clause-seats g c = λ seats front rest. (
  (λ all. (IsOfSeatsBelow-front seats front rest all, IsOfSeatsBelow-rest seats front rest all)),
  (λ both. IsOfSeatsBelow-append seats front rest both.0 both.1),
)
