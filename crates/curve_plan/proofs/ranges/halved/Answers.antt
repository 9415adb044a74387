use Rattle.std.proofs.Common.{◌≡◌, ap, sym, ◌∙◌, suc, arith, rules, ◌≤ℤ◌, ◌<ℤ◌, true, false}
use Rattle.std.specs.Option.{option_copied}
use Rattle.std.specs.List.Sorted.{IsPartitionPoint}
use Rattle.std.proofs.lemmas.Int.{ints}
use Rattle.std.proofs.lemmas.List.Sorted.{IsPartitionPoint-from_clause}
use Rattle.curve_plan.proofs.RangeFacts.{begins, parted-at, halved-none, halved-some, halved-past}
use Rattle.curve_plan.proofs.ranges.halved.Goals as goal

pub returns-in_err-range : goal.returns-in_err-range
returns-in_err-range c =
    let xs = c.args.ranges.now in
    let end = c.partition_point-end.result in
    let parted = IsPartitionPoint-from_clause (begins c.args.raw) xs end c.partition_point-end.ensures.partitioned (parted-at c.args.raw xs c.requires) (λ a r q k. search rules) in
    let none : end ≡ 0 = omega (arith, c.in_err-range.ensures) in
    let at_none : IsPartitionPoint (λ r. begins c.args.raw r ≡ true) (λ r. begins c.args.raw r ≡ false) xs 0 = rw none at parted in
    ap option_copied c.from_residual.ensures ∙ sym (halved-none c.args.raw xs c.requires at_none)

pub returns-then-raw-range : goal.returns-then-raw-range
returns-then-raw-range c =
    let xs = c.args.ranges.now in
    let end = c.partition_point-end.result in
    let parted = IsPartitionPoint-from_clause (begins c.args.raw) xs end c.partition_point-end.ensures.partitioned (parted-at c.args.raw xs c.requires) (λ a r q k. search rules) in
    let next : end ≡ suc c.in_ok-range.field-0 = omega (arith, c.in_ok-range.ensures) in
    let up : c.args.raw ≤ℤ c.index-ranges-branch.result.high = omega (arith, ints) in
    sym (halved-some c.args.raw xs c.requires end c.in_ok-range.field-0 next c.partition_point-end.ensures.bound parted c.index-ranges-branch.result c.index-ranges-branch.is up)

pub returns-else-raw-range : goal.returns-else-raw-range
returns-else-raw-range c =
    let xs = c.args.ranges.now in
    let end = c.partition_point-end.result in
    let parted = IsPartitionPoint-from_clause (begins c.args.raw) xs end c.partition_point-end.ensures.partitioned (parted-at c.args.raw xs c.requires) (λ a r q k. search rules) in
    let next : end ≡ suc c.in_ok-range.field-0 = omega (arith, c.in_ok-range.ensures) in
    let down : c.index-ranges-branch.result.high <ℤ c.args.raw = omega (arith, ints) in
    sym (halved-past c.args.raw xs c.requires end c.in_ok-range.field-0 next c.partition_point-end.ensures.bound parted c.index-ranges-branch.result c.index-ranges-branch.is down)
