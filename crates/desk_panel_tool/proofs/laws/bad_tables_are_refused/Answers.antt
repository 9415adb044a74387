use Rattle.desk_panel_tool.proofs.WholeFacts.{bad-tables}
use Rattle.desk_panel_tool.proofs.laws.bad_tables_are_refused.Goals as goal

pub returns : goal.returns
returns g c code closed w fault files tables feed stations out a bad said = bad-tables w files tables feed stations out a code closed fault bad said
