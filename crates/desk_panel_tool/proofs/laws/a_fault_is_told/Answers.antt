use Rattle.desk_panel_tool.proofs.WholeFacts.{tells}
use Rattle.desk_panel_tool.proofs.laws.a_fault_is_told.Goals as goal

pub returns : goal.returns
returns g c code history w tables feed stations out said = tells code history said.first said.octets said.lines feed stations out said.ran
