use Rattle.std.proofs.Common.{◌≡◌, ◌<◌, ◌≤◌, ◌-◌, ℕ, Less, Greater, get_or, length}
use Rattle.std.specs.Cmp.Lexicographic.{slice_cmp}
use Rattle.std.specs.Ordering.{nat_cmp}
use Rattle.param_plan.specs.Slices.{ParamSlice}
use Rattle.param_plan.proofs.params.Params.place.Given as goal

abbrev pub decreases-loop-low : goal.decreases-loop-low
decreases-loop-low l = l.high - l.low

abbrev pub invariant-loop-low : goal.invariant-loop-low
invariant-loop-low l = record {
  within : (l.low ≤ l.high) × (l.high ≤ length l.self);
  less : (k : ℕ) (d : ParamSlice) → k < l.low → slice_cmp nat_cmp (get_or l.self k d).pcf.name l.name ≡ Less;
  greater : (k : ℕ) (d : ParamSlice) → l.high ≤ k → k < length l.self → slice_cmp nat_cmp (get_or l.self k d).pcf.name l.name ≡ Greater;
}
