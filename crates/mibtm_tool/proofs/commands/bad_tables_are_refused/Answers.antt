use Rattle.mibtm_tool.proofs.LiveRefusals.{refuses_tables}
use Rattle.mibtm_tool.proofs.commands.bad_tables_are_refused.Goals as goal

pub returns : goal.returns
returns g c code closed names files fault s out replies holds bad steady said =
    refuses_tables names files fault s out replies holds bad steady code closed said
