use Rattle.std.proofs.Common.{◌≤◌, None, Some, length, take}
use Rattle.std.specs.List.{All}
use Rattle.mib_model.specs.Fixed.{most_values, occurrences}
use Rattle.row_interpreter.specs.Readings.{IsOf, Reads}
use Rattle.row_interpreter.proofs.layout.read_row.Given as goal

abbrev pub invariant-loop-k : goal.invariant-loop-k
invariant-loop-k l = record {
  reads : Reads l.packet (take l.k (occurrences l.row (Some l.shape))) None l.initial.values.items l.values.items;
  few : length l.values.items ≤ most_values;
  all : All (IsOf l.packet) l.values.items;
}
