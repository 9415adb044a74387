use Rattle.run_laws.proofs.DeskFirst.{goes-first, first-decides}
use Rattle.run_laws.proofs.desk.desk_first_decides.Goals as goal

pub returns : goal.returns
returns c = record { first = goes-first; decides = first-decides }
