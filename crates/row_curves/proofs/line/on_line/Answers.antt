use Rattle.std.proofs.Common.{◌≡◌, ◌∙◌, to_z, of_z, arith}
use Rattle.std.specs.Int.{w128}
use Rattle.std.proofs.lemmas.Int.{ints}
use Rattle.dec_num.proofs.LineFacts.{interpolated_over, interpolated_some}
use Rattle.row_curves.proofs.line.on_line.Goals as goal

pub returns-in_default-climb : goal.returns-in_default-climb
returns-in_default-climb c =
    let px : to_z w128 (of_z w128 c.args.p.x) ≡ c.args.p.x = omega (arith, ints) in
    let raw : to_z w128 (of_z w128 c.args.raw) ≡ c.args.raw = omega (arith, ints) in
    let rise : to_z w128 (of_z w128 c.in-Some.rise) ≡ c.in-Some.rise = omega (arith, ints) in
    interpolated_over (record { x = c.args.p.x; y = c.args.p.y.count }) (record { x = c.args.q.x; y = c.args.q.y.count }) c.args.raw c.in-Some.rise
    c.in-Some.ensures.value (rw (raw, px, rise) at c.in_default-climb.ensures.value)

pub returns : goal.returns
returns c =
    let px : to_z w128 (of_z w128 c.args.p.x) ≡ c.args.p.x = omega (arith, ints) in
    let qx : to_z w128 (of_z w128 c.args.q.x) ≡ c.args.q.x = omega (arith, ints) in
    let py : to_z w128 (of_z w128 c.args.p.y.count) ≡ c.args.p.y.count = omega (arith, ints) in
    let raw : to_z w128 (of_z w128 c.args.raw) ≡ c.args.raw = omega (arith, ints) in
    let rise : to_z w128 (of_z w128 c.in-Some.rise) ≡ c.in-Some.rise = omega (arith, ints) in
    let climb : to_z w128 (of_z w128 c.in-Some-climb.climb) ≡ c.in-Some-climb.climb = omega (arith, ints) in
    let half : to_z w128 (of_z w128 c.half.result) ≡ c.half.result = omega (arith, ints) in
    let offset = rw (climb, c.abs_diff.ensures, qx, px) at c.half.ensures in
    (rw (py, half, offset) at c.raised.ensures) ∙
    interpolated_some (record { x = c.args.p.x; y = c.args.p.y.count }) (record { x = c.args.q.x; y = c.args.q.y.count }) c.args.raw c.in-Some.rise c.in-Some-climb.climb
    c.in-Some.ensures.value (rw (raw, px, rise) at c.in-Some-climb.ensures.value)
