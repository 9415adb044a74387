use Rattle.std.proofs.Common.{◌≡◌, ◌+◌, drop}
use Rattle.mib_rows.proofs.LongFacts.{longer_by}
use Rattle.mib_rows.proofs.fields.Fields.are_longer.Given as goal

abbrev pub invariant-loop-at : goal.invariant-loop-at
invariant-loop-at l = longer_by l.room (drop l.at l.self) ≡ longer_by (l.most + 1) l.self
