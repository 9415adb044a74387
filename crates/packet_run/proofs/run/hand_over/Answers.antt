use Rattle.packet_run.proofs.Common.{refl}
use Rattle.packet_run.proofs.KeepsFacts.{keeps_on}
use Rattle.packet_run.proofs.run.hand_over.Goals as goal

pub returns-clause-keeps : goal.returns-clause-keeps
returns-clause-keeps g c = keeps_on c.offer.ensures.keeps refl refl refl
