use Rattle.std.proofs.Common.{ℕ, ◌∙◌, ap, arith, filter, map, refl}
use Rattle.std.proofs.lemmas.List.{take_all}
use Rattle.row_flaws.specs.declared.structures.Spot.{Spot}
use Rattle.row_flaws.specs.Structures.{is_in, spot_of}
use Rattle.row_flaws.proofs.OrderFacts.{sorted-filter}
use Rattle.row_flaws.proofs.structures.structures.Goals as goal

pub returns : goal.returns
returns c = λ q.
    c.loop-spot.invariant q ∙ (ap (filter (is_in q)) (take_all c.loop-spot.spot-index c.deref-spot-items.result.now (omega arith)) ∙ (ap (filter (is_in q)) c.deref-spot-items.ensures.value ∙
    sorted-filter (λ (spot : Spot). spot.pos) (λ (k : ℕ). record { tpsd = 0; pos = k; grpsize = 0 }) (λ k. refl) (is_in q) (map spot_of c.args.rows.now) c.in_ok-spots.spots.items c.in_ok-spots.ensures.rises c.in_ok-spots.ensures.stable))
