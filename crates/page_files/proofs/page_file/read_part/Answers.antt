use Rattle.std.proofs.Common.{refl}
use Rattle.page_files.proofs.PageTexts.{as-part}
use Rattle.page_files.proofs.page_file.read_part.Goals as goal

pub returns-in-Ok-clause-told : goal.returns-in-Ok-clause-told
returns-in-Ok-clause-told g c = as-part _ _ _ refl c.in-Ok.ensures.told
