use Rattle.std.proofs.Common.{nat_lt, rules}
use Rattle.std.proofs.lemmas.List.Sorted.{IsPartitionedBy-ltb, IsPartitionPoint-from_clause}
use Rattle.row_flaws.specs.declared.structures.Spot.{Spot}
use Rattle.row_flaws.proofs.OrderFacts.{count-parted}
use Rattle.row_flaws.proofs.structures.count_before.Goals as goal

pub returns-clause-count : goal.returns-clause-count
returns-clause-count c =
    count-parted (λ (o : Spot). nat_lt o.pos c.args.pos) c.args.spots.now c.partition_point.result c.partition_point.ensures.bound
    (IsPartitionPoint-from_clause (λ (o : Spot). nat_lt o.pos c.args.pos) c.args.spots.now c.partition_point.result c.partition_point.ensures.partitioned (IsPartitionedBy-ltb (λ (o : Spot). o.pos) c.args.spots.now c.args.pos c.requires) (λ a r q k. search rules))
