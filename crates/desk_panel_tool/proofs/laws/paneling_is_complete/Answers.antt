use Rattle.desk_panel_tool.proofs.WholeFacts.{completes}
use Rattle.desk_panel_tool.proofs.laws.paneling_is_complete.Goals as goal

pub returns : goal.returns
returns g c code closed w db octets scripts files feeds desks tables feed stations out a b d e found said =
    completes w db octets scripts files feeds desks tables feed stations out a b d e found code closed said
