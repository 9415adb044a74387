use Rattle.std.proofs.Common.{◌≡◌, ◌≤◌, length, None}
use Rattle.mib_model.specs.Fixed.{most_values}
use Rattle.layout_plan.specs.Readings.{Reads}
use Rattle.layout_plan.specs.Spans.{first_places}
use Rattle.layout_plan.proofs.span.Span.read_each.Given as goal

abbrev pub invariant-loop-k : goal.invariant-loop-k
invariant-loop-k l = record {
  reads : Reads l.packet (first_places l.self l.k) None l.initial.values l.values;
  slots : length l.values.slots.now ≡ most_values;
  used : l.values.used ≤ most_values;
  borrow : l.values.slots.ghost_name ≡ l.initial.values.slots.ghost_name;
}
