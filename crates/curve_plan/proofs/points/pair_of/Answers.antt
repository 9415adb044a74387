use Rattle.std.proofs.Common.{◌≡◌, ◌∙◌, ◌+◌, ◌-◌, ◌<◌, ℤ, pos, suc, min, length, filter, sym, ap, option_map, Some, get_or, to_z, of_z, arith, add-one}
use Rattle.std.specs.Int.{w128}
use Rattle.std.proofs.lemmas.Int.{ints}
use Rattle.dec_num.specs.declared.curve.Point.{Point}
use Rattle.curve_plan.specs.Knots.{knot_at}
use Rattle.curve_plan.specs.Pairs.{pair_at}
use Rattle.curve_plan.proofs.PairFacts.{climbs-next, is_low, pair-in, pair-none}
use Rattle.curve_plan.proofs.points.pair_of.Goals as goal

pub returns-in_err-last-clause-pair : goal.returns-in_err-last-clause-pair
returns-in_err-last-clause-pair c =
    let few : length c.args.points.now < 2 = omega (arith, c.in_err-last.ensures) in
    ap (option_map pair_at) c.from_residual.ensures ∙ sym (pair-none c.args.raw c.args.points.now few)

-- the default that an index beyond the points would give
abbrev origin : Point
origin = record { x = pos 0; y = record { count = pos 0 } }

pub returns-clause-pair : goal.returns-clause-pair
returns-clause-pair c =
    let ps = c.args.points.now in
    let k = c.first_of-first.result in
    let long : c.in_ok-last.last + 2 ≡ length ps = omega (arith, c.in_ok-last.ensures) in
    let raw : to_z w128 (of_z w128 c.args.raw) ≡ c.args.raw = omega (arith, ints) in
    let place = c.first_of-first.ensures.place ∙ ap (λ (z : ℤ). min (length (filter (is_low z) ps) - 1) c.in_ok-last.last) raw in
    ap (λ n. Some (knot_at (get_or ps k origin), knot_at (get_or ps n origin))) (add-one k) ∙ sym (pair-in c.args.raw ps origin c.requires.climbs c.in_ok-last.last k long place)

pub returns-clause-order : goal.returns-clause-order
returns-clause-order c =
    let ps = c.args.points.now in
    let k = c.first_of-first.result in
    let within : suc k < length ps = omega (arith, c.in_ok-last.ensures, c.first_of-first.ensures.within) in
    rw (add-one k) (climbs-next ps k origin c.requires.climbs within)
