use Rattle.desk_panel_tool.proofs.WholeFacts.{no-desk}
use Rattle.desk_panel_tool.proofs.laws.a_missing_desk_is_refused.Goals as goal

pub returns : goal.returns
returns g c code closed w db octets files feeds desks tables feed stations out a sound b is calm missing said =
    no-desk w files tables feed stations out a db sound feeds b code closed octets desks is calm missing said
