use Rattle.std.proofs.Common.{◌≡◌, ◌≤◌, length, map, None}
use Rattle.std.specs.List.{range_with_len}
use Rattle.mib_model.specs.Fixed.{most_values, occurrence}
use Rattle.tm_build.specs.Lays.{Lays}
use Rattle.tm_build.proofs.layout.lay_occurrences.Given as goal

abbrev pub invariant-loop-k : goal.invariant-loop-k
invariant-loop-k g l = record {
  lays : Lays (g.N.Numbers.source l.numbers) (map (occurrence l.row l.shape) (range_with_len 0 l.k)) None l.initial.values l.values;
  slots : length l.values.slots.now ≡ most_values;
  used : l.values.used ≤ most_values;
  borrow : l.values.slots.ghost_name ≡ l.initial.values.slots.ghost_name;
}
