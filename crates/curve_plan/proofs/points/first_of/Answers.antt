use Rattle.std.proofs.Common.{◌≡◌, ◌∙◌, ◌-◌, min, length, filter, ap, rules}
use Rattle.std.proofs.lemmas.List.Sorted.{IsPartitionPoint-from_clause}
use Rattle.curve_plan.proofs.PairFacts.{count-parted, is_low, parted-at}
use Rattle.curve_plan.proofs.points.first_of.Goals as goal

pub returns-clause-place : goal.returns-clause-place
returns-clause-place c =
    let ps = c.args.points.now in
    let at = c.partition_point-at.result in
    let counted : at ≡ length (filter (is_low c.args.raw) ps) =
    count-parted (is_low c.args.raw) ps at c.partition_point-at.ensures.bound
    (IsPartitionPoint-from_clause (is_low c.args.raw) ps at c.partition_point-at.ensures.partitioned (parted-at c.args.raw ps c.requires.climbs) (λ a r q k. search rules)) in
    c.min.ensures ∙ (ap (λ s. min s c.args.last) c.saturating_sub.ensures ∙ ap (λ n. min (n - 1) c.args.last) counted)
