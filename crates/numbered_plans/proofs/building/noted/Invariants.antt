use Rattle.std.proofs.Common.{◌≡◌, ◌+◌, ℤ, length, take}
use Rattle.mib_model.specs.Orders.{sorted_by_number}
use Rattle.numbered_plans.specs.Numbered.{found_among, new_among, plan_at}
use Rattle.numbered_plans.proofs.building.noted.Given as goal

abbrev pub invariant-loop-number : goal.invariant-loop-number
invariant-loop-number g l = record {
  plans : (q : ℤ) → plan_at l.building.plans q ≡ found_among (g.S.Sources.rows_at l.new) (take l.number-index l.numbers) q;
  compiled : sorted_by_number (λ n. n) l.building.compiled.items
      ≡ new_among g.S.Sources.same (g.S.Sources.rows_at l.before) (g.S.Sources.rows_at l.new) (take l.number-index l.numbers);
  steps : l.steps ≡ l.initial.steps + length (new_among g.S.Sources.same (g.S.Sources.rows_at l.before) (g.S.Sources.rows_at l.new) (take l.number-index l.numbers));
}
