use Rattle.mibtm_tool.proofs.Decided.{script-decides}
use Rattle.mibtm_tool.proofs.commands.a_script_up_to_its_go_decides.Goals as goal

pub returns : goal.returns
returns c = script-decides
