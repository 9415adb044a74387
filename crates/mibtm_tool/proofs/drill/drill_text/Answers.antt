use Rattle.live_session.proofs.SharedEdition.{compiled-sync}
use denote.Param.Send.{sendable}
use Rattle.mibtm_tool.proofs.drill.drill_text.Goals as goal

pub drill_counts-requires-sync-P : goal.drill_counts-requires-sync-P
drill_counts-requires-sync-P g c κs within = search (compiled-sync, sendable) depth 9
