use Rattle.std.proofs.Common.{◌≡◌, ◌≤◌, ◌+◌}
use Rattle.mib_model.specs.declared.limits.TheConstants.{ROWS_MOST}
use Rattle.mib_model.specs.Lines.{lines}
use Rattle.mib_model.specs.Reading.{line_at, rows_from}
use Rattle.mib_rows.specs.Left.{IsAtRecord, left_in, lines_left, octets_left}
use Rattle.mib_rows.proofs.TableFacts.{behind}
use Rattle.mib_rows.proofs.rows.rows.Given as goal

abbrev pub invariant-loop-line : goal.invariant-loop-line
invariant-loop-line g l = record {
  few : l.number ≤ ROWS_MOST;
  at_record : IsAtRecord l.left;
  so_far : behind l.rows.items (rows_from (line_at g.R.ReadRow.reads g.R.TableRow.kind) (l.number + 1) (lines_left (left_in l.left))) ≡ rows_from (line_at g.R.ReadRow.reads g.R.TableRow.kind) 1 (lines l.text);
}

abbrev pub decreases-loop-line : goal.decreases-loop-line
decreases-loop-line g l = octets_left (left_in l.left)
