use Rattle.std.proofs.Common.{◌≡◌, ◌≤◌, take, length, None}
use Rattle.std.specs.List.{flat_map}
use Rattle.mib_model.specs.Fixed.{most_values, occurrences}
use Rattle.mib_model.specs.Parameters.{measured_encoding, parameter}
use Rattle.tm_build.specs.Lays.{Lays}
use Rattle.tm_build.proofs.layout.lay_rows.Given as goal

abbrev pub invariant-loop-row : goal.invariant-loop-row
invariant-loop-row g l = record {
  lays : Lays (g.N.Numbers.source l.numbers) (flat_map (λ row. occurrences row (measured_encoding (parameter l.parameters row.name))) (take l.row-index l.rows)) None l.initial.values l.values;
  slots : length l.values.slots.now ≡ most_values;
  used : l.values.used ≤ most_values;
  borrow : l.values.slots.ghost_name ≡ l.initial.values.slots.ghost_name;
}
