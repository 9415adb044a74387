use Rattle.packet_run.proofs.KeepsFacts.{keeps_refl}
use Rattle.packet_run.proofs.pipeline.look.Goals as goal

pub returns-then-has_begun-clause-keeps : goal.returns-then-has_begun-clause-keeps
returns-then-has_begun-clause-keeps g c = keeps_refl
