use Rattle.std.proofs.Common.{◌≡◌, ◌≤◌, length, take, None}
use Rattle.mib_model.specs.Fixed.{most_values}
use Rattle.layout_plan.specs.Readings.{Reads}
use Rattle.layout_plan.specs.Spans.{spans_places}
use Rattle.layout_plan.proofs.layout.read_spans.Given as goal

abbrev pub invariant-loop-span : goal.invariant-loop-span
invariant-loop-span l = record {
  reads : Reads l.packet (spans_places (take l.span-index l.spans)) None l.initial.values l.values;
  slots : length l.values.slots.now ≡ most_values;
  used : l.values.used ≤ most_values;
  borrow : l.values.slots.ghost_name ≡ l.initial.values.slots.ghost_name;
}
