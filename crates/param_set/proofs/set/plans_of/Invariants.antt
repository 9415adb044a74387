use Rattle.std.proofs.Common.{◌≡◌, ◌+◌, map, filter, length, take}
use Rattle.std.specs.Arc.{arc_value}
use Rattle.param_plan.specs.Slices.{slice_for}
use Rattle.param_set.specs.Sharing.{is_new, new_names}
use Rattle.param_set.proofs.set.plans_of.Given as goal

abbrev pub invariant-loop-row : goal.invariant-loop-row
invariant-loop-row g l = record {
  plans : map arc_value l.params.items ≡ map (slice_for l.sources) (map (λ row. row.now) (take l.row-index l.rows));
  compiled : l.compiled.items ≡ new_names l.base (map (slice_for l.sources) (map (λ row. row.now) (take l.row-index l.rows)));
  steps : l.steps ≡ l.initial.steps + length (filter (is_new l.base) (map (slice_for l.sources) (map (λ row. row.now) (take l.row-index l.rows))));
}
