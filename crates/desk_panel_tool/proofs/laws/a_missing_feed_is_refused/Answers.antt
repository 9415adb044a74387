use Rattle.desk_panel_tool.proofs.WholeFacts.{no-feed}
use Rattle.desk_panel_tool.proofs.laws.a_missing_feed_is_refused.Goals as goal

pub returns : goal.returns
returns g c code closed w db files feeds tables feed stations out a sound b none said = no-feed w files tables feed stations out a db sound feeds b code closed none said
