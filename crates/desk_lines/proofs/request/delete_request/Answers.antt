use Rattle.std.proofs.Common.{sym}
use Rattle.run_model.specs.DeskLines as Spec
use Rattle.desk_lines.proofs.request.delete_request.Goals as goal

pub returns-in-Ok : goal.returns-in-Ok
returns-in-Ok c = sym (c.in-Ok.ensures Spec.Delete)

pub returns-in-Err : goal.returns-in-Err
returns-in-Err c = sym (c.in-Err.ensures Spec.Delete)
