use Rattle.mibtm_tool.proofs.Completeness.{completes_drill}
use Rattle.mibtm_tool.proofs.commands.drilling_is_complete.Goals as goal

pub returns : goal.returns
returns g c = completes_drill
