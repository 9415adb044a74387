use Rattle.std.proofs.Common.{refl}
use Rattle.session.proofs.TextFiles.{as-part}
use Rattle.mibtm_audit.proofs.text.read_left.Goals as goal

pub returns-in-Ok-clause-told : goal.returns-in-Ok-clause-told
returns-in-Ok-clause-told g c = as-part _ _ _ refl c.in-Ok.ensures.told
