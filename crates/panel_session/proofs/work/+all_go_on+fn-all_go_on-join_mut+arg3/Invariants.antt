use Rattle.std.proofs.Common.{length}
use Rattle.panel_session.proofs.work.+all_go_on+fn-all_go_on-join_mut+arg3.Given as goal

abbrev pub decreases-all_go_on : goal.decreases-all_go_on
decreases-all_go_on g l = length l.stations.now

abbrev pub decreases-join_mut+arg3 : goal.decreases-join_mut+arg3
decreases-join_mut+arg3 g l = length l.other_stations.now
