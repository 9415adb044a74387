use Rattle.std.proofs.Common.{◌≡◌, ◌∙◌, ◌+◌, ◌-◌, ◌∷◌, ℕ, ℤ, List, ap, arith, drop, get_or, length, of_z, option_map, pos, suc, sym, to_z}
use Rattle.std.specs.Int.{w128}
use Rattle.std.proofs.lemmas.Int.{ints}
use Rattle.dec_num.specs.declared.curve.Point.{Point}
use Rattle.mib_model.specs.Points.{Knot, neighbours, pair_for}
use Rattle.row_curves.proofs.PointFacts.{knot-there, knots-long, neighbours-end, neighbours-next, taken-end}
use Rattle.row_curves.specs.Pairs.{taken_of}
use Rattle.row_curves.specs.Views.{knot_at, knots_at, pair_at}
use Rattle.row_curves.proofs.points.pair_for.Goals as goal

pub loop-at-preserved : goal.loop-at-preserved
loop-at-preserved c =
    let raw = to_z w128 (of_z w128 c.args.raw) in
    let n = c.loop-at.at - 1 in
    let points : List Point = c.args.points.now in
    let z : Point = record { x = pos 0; y = record { count = pos 0 } } in
    let here : suc n ≡ c.loop-at.at = omega (arith, c.loop-at.auto.at) in
    let more : c.loop-at.at + 1 - 1 ≡ c.loop-at.at = omega arith in
    let next = neighbours-next (knots_at points) n (knot_at z) (omega (arith, here, knots-long points, c.loop-at-test.true)) in
    let second : get_or (knots_at points) (suc n) (knot_at z) ≡ knot_at (get_or points c.loop-at.at z) = knot-there points (suc n) z ∙ ap (λ (k : ℕ). knot_at (get_or points k z)) here in
    let first = knot-there points n z in
    let all : neighbours (drop n (knots_at points)) ≡ pair_at (get_or points n z, get_or points c.loop-at.at z) ∷ neighbours (drop c.loop-at.at (knots_at points)) =
    next ∙ (λ i. (first i, second i) ∷ neighbours (drop (here i) (knots_at points))) in
    let so : taken_of raw (option_map pair_at c.loop-at.found) (neighbours (drop n (knots_at points))) ≡ pair_for raw (neighbours (knots_at points)) = c.loop-at.invariant in
    ap (λ (k : ℕ). taken_of raw (option_map pair_at c.taken-found.result) (neighbours (drop k (knots_at points)))) more
    ∙ (c.taken-found.ensures (neighbours (drop c.loop-at.at (knots_at points))) ∙ (ap (taken_of raw (option_map pair_at c.loop-at.found)) (sym all) ∙ so))

pub returns : goal.returns
returns c =
    let raw = to_z w128 (of_z w128 c.args.raw) in
    let same : raw ≡ c.args.raw = omega (arith, ints) in
    let n = c.loop-at.at - 1 in
    let points : List Point = c.args.points.now in
    let none = neighbours-end (knots_at points) n (omega (arith, knots-long points, c.loop-at-test.false, c.loop-at.auto.at)) in
    let so : taken_of raw (option_map pair_at c.loop-at.found) (neighbours (drop n (knots_at points))) ≡ pair_for raw (neighbours (knots_at points)) = c.loop-at.invariant in
    sym (taken-end raw (option_map pair_at c.loop-at.found))
    ∙ (ap (taken_of raw (option_map pair_at c.loop-at.found)) (sym none) ∙ (so ∙ ap (λ (z : ℤ). pair_for z (neighbours (knots_at points))) same))
