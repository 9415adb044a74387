use Rattle.std.proofs.Common.{◌≡◌, take, filter_map}
use Rattle.curve_plan.specs.Ranges.{range_of}
use Rattle.curve_plan.proofs.ranges.ranges_of.Given as goal

abbrev pub invariant-loop-row : goal.invariant-loop-row
invariant-loop-row l = l.ranges.items ≡ filter_map range_of (take l.row-index l.txps)
