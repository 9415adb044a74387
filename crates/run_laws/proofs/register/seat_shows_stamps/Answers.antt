use Rattle.run_laws.proofs.RegisterFacts.{seats-show}
use Rattle.run_laws.proofs.register.seat_shows_stamps.Goals as goal

pub returns : goal.returns
returns c = seats-show
