use Rattle.mibtm_tool.proofs.Completeness.{completes_check}
use Rattle.mibtm_tool.proofs.commands.checking_is_complete.Goals as goal

pub returns : goal.returns
returns g c = completes_check
