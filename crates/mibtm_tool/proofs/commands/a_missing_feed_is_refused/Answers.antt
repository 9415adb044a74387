use Rattle.mibtm_tool.proofs.LiveRefusals.{refuses_feed}
use Rattle.mibtm_tool.proofs.commands.a_missing_feed_is_refused.Goals as goal

pub returns : goal.returns
returns g c code closed names files feeds db s out replies holds sound fed none steady calm said =
    refuses_feed names files feeds db s out replies holds sound fed none steady calm code closed said
