use denote.Param.Send.{sendable}
use Rattle.live_session.proofs.SharedEdition.{compiled-send, compiled-sync}
use Rattle.live_session.proofs.live.fn.run_both.join_mut+arg3.Goals as goal

pub run_intake-requires-send-E : goal.run_intake-requires-send-E
run_intake-requires-send-E g c κs within = search (compiled-send, sendable) depth 9

pub run_intake-requires-sync-E : goal.run_intake-requires-sync-E
run_intake-requires-sync-E g c κs within = search (compiled-sync, sendable) depth 9
