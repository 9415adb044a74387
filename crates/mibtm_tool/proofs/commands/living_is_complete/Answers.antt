use Rattle.mibtm_tool.proofs.LiveCompleteness.{completes_live}
use Rattle.mibtm_tool.proofs.commands.living_is_complete.Goals as goal

pub returns : goal.returns
returns g c code closed names octets script files feeds desks db s out replies holds found steady said =
    completes_live names octets script files feeds desks db s out replies holds found steady code closed said
