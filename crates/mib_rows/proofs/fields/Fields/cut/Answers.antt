use Rattle.std.proofs.Common.{drop, ap, List, ℕ}
use Rattle.mib_rows.proofs.fields.Fields.cut.Goals as goal

pub returns-in-Ok : goal.returns-in-Ok
returns-in-Ok c = ap (drop {A = List ℕ} 1) c.in-Ok.ensures
