use Rattle.std.proofs.Common.{◌<◌, ◌≤ℤ◌, length, arith}
use Rattle.std.proofs.lemmas.Bool.Decides.{nat_tests}
use Rattle.std.proofs.lemmas.Int.{ints}
use Rattle.curve_plan.proofs.RangeFacts.{found-at-place}
use Rattle.curve_plan.proofs.fast.ranges.next_holding.Goals as goal

pub returns-then-range-raw : goal.returns-then-range-raw
returns-then-range-raw c =
    let range = c.in_ok-range.range.now in
    let place = c.saturating_add.result in
    let here : place < length c.args.ranges.now = grind (arith, nat_tests, c.in_ok-range.ensures.lookup.0) in
    let low : range.low ≤ℤ c.args.raw = omega (arith, ints) in
    let high : c.args.raw ≤ℤ range.high = omega (arith, ints) in
    found-at-place c.args.raw c.args.ranges.now c.requires place range here c.in_ok-range.ensures.lookup.1 low high
