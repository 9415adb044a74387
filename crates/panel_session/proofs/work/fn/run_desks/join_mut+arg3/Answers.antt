use denote.Param.Send.{sendable}
use Rattle.live_session.proofs.SharedEdition.{edition-send, edition-sync}
use Rattle.panel_session.proofs.work.fn.run_desks.join_mut+arg3.Goals as goal

pub run_intake-requires-send-E : goal.run_intake-requires-send-E
run_intake-requires-send-E g c κs within = search (edition-send, sendable) depth 9

pub run_intake-requires-sync-E : goal.run_intake-requires-sync-E
run_intake-requires-sync-E g c κs within = search (edition-sync, sendable) depth 9
