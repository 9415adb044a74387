-- Rows for identification that are the same are equal.
use Rattle.std.proofs.Common.{◌≡◌}
use Rattle.edition_diff.specs.Diffs.{ident_rows}
use Rattle.mib_model.specs.declared.database.Database.{Database}

-- identification depends on equal rows where packets and criteria are equal
pub equal-ident : (old new : Database) → old.pid ≡ new.pid → old.pic ≡ new.pic → ident_rows old ≡ ident_rows new
equal-ident old new pids pics = λ i. record { pids = pids i; pics = pics i }
