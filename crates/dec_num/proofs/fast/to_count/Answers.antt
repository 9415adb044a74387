use Rattle.std.proofs.Common.{◌≡◌, ◌^◌, ◌-◌, ◌≤◌, to_z, of_z, w64, arith}
use Rattle.std.specs.Prelude.{pos, nat_abs}
use Rattle.std.specs.Int.{w128}
use Rattle.std.proofs.Math.Nat.{pow-le-pow_right}
use Rattle.std.proofs.lemmas.Int.{ints}
use Rattle.dec_num.proofs.WordFacts.{word-count}
use Rattle.dec_num.proofs.fast.to_count.Goals as goal

pub overflow_cast-small_power : goal.overflow_cast-small_power
overflow_cast-small_power c =
    let fewer : 12 - c.from.result ≤ 12 = omega arith in
    let power : 10 ^ (12 - c.from.result) ≤ 10 ^ 12 = pow-le-pow_right {n = 10} (omega arith) fewer in
    omega (arith, ints, power, c.small_power.ensures)

pub returns : goal.returns
returns c =
    let product : to_z w128 (of_z w128 c.product.result) ≡ c.product.result = omega (arith, ints) in
    let sum : to_z w64 (of_z w64 c.args.sum) ≡ c.args.sum = omega (arith, ints) in
    let small : nat_abs c.args.sum ≤ 2 ^ 63 = omega (arith, ints) in
    let places : 12 - c.from.result ≡ 12 - c.args.scale = omega (arith, c.from.ensures) in
    let fewer : 12 - c.args.scale ≤ 12 = omega arith in
    let below : 10 ^ (12 - c.args.scale) ≤ 10 ^ 12 = pow-le-pow_right {n = 10} (omega arith) fewer in
    let power : to_z w64 (10 ^ (12 - c.args.scale)) ≡ pos (10 ^ (12 - c.args.scale)) = omega (arith, ints, below) in
    rw (product, c.product.ensures, sum, c.small_power.ensures, places, power) (word-count c.args.sum c.args.scale small c.requires)
