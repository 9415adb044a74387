use Rattle.std.proofs.Common.{refl}
use Rattle.session.proofs.TextFiles.{as-part}
use Rattle.session.proofs.text_file.read_part.Goals as goal

pub returns-clause-told : goal.returns-clause-told
returns-clause-told g c = as-part _ _ _ refl c.in_ok-read_up_to.ensures.told
