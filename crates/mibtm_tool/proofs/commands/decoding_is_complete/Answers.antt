use Rattle.mibtm_tool.proofs.Completeness.{completes}
use Rattle.mibtm_tool.proofs.commands.decoding_is_complete.Goals as goal

pub returns : goal.returns
returns g c = completes
