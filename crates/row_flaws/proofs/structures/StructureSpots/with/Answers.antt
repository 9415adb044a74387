use Rattle.std.proofs.Common.{◌≡◌, ◌+◌, length, arith}
use Rattle.row_flaws.proofs.SweepFacts.{swept-more}
use Rattle.row_flaws.proofs.structures.StructureSpots.with.Goals as goal

pub invariant_of-result : goal.invariant_of-result
invariant_of-result c =
    let place : c.len-place.result ≡ length c.self.inside.spots.items = omega arith in
    let end : c.len-place.result + c.from.result ≡ length c.self.inside.spots.items + c.args.spot.grpsize = omega arith in
    rw (c.in_ok-push-2.ensures.items, c.in_ok-push.ensures.items)
    (swept-more _ _ c.self.inside.ends _ _ _ _ _ place end c.self.invariant c.nearest_end.ensures c.in_ok-insert.ensures.updates)
