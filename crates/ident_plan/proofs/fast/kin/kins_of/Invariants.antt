use Rattle.std.proofs.Common.{take}
use Rattle.ident_plan.specs.Kins.{AreKins}
use Rattle.ident_plan.proofs.fast.kin.kins_of.Given as goal

abbrev pub invariant-loop-row : goal.invariant-loop-row
invariant-loop-row l = record { kins : AreKins (take l.row-index l.pids) l.kins.items }
