use Rattle.std.proofs.Common.{length}
use Rattle.desk_panel_tool.proofs.inputs.+turn_desks.Given as goal

abbrev pub decreases-turn_desks : goal.decreases-turn_desks
decreases-turn_desks g l = length l.names.now
