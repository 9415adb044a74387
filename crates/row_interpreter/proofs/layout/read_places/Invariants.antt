use Rattle.std.proofs.Common.{◌≤◌, None, length, take}
use Rattle.std.specs.List.{All}
use Rattle.mib_model.specs.Fixed.{most_values}
use Rattle.row_interpreter.specs.Readings.{IsOf, Reads, places_of}
use Rattle.row_interpreter.proofs.layout.read_places.Given as goal

abbrev pub invariant-loop-row : goal.invariant-loop-row
invariant-loop-row l = record {
  reads : Reads l.packet (places_of l.parameters (take l.row-index l.rows)) None l.initial.values.items l.values.items;
  few : length l.values.items ≤ most_values;
  all : All (IsOf l.packet) l.values.items;
}
