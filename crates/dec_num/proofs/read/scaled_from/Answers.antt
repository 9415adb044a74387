use Rattle.std.proofs.Common.{◌≡◌, ℕ, ◌+◌, ◌-◌, ◌<◌, ◌+ℤ◌, pos, ◌++◌, ◌∙◌, length, arith, length-append}
use Rattle.std.proofs.lemmas.Int.{to_z-of_z}
use Rattle.mib_model.specs.Decimals.{scaled}
use Rattle.dec_num.proofs.ScaledFacts.{from_scaled}
use Rattle.dec_num.proofs.read.scaled_from.Goals as goal

pub returns : goal.returns
returns c =
    let digits = c.args.whole.now ++ c.args.fraction.now in
    let left = c.without_trailing.result.0.now ++ c.without_trailing.result.1.now in
    let zeros_count : ℕ = length c.args.whole.now + length c.args.fraction.now - (length c.without_trailing.result.0.now + length c.without_trailing.result.1.now) in
    let there : c.scaled.result ≡ scaled c.args.minus left c.raised.result = grind (arith, to_z-of_z, c.scaled.ensures) in
    let shift : c.raised.result ≡ c.args.exponent +ℤ pos zeros_count = grind (arith, to_z-of_z, c.raised.ensures) in
    let some : 0 < length digits = omega (arith, length-append c.args.whole.now c.args.fraction.now) in
    let count : zeros_count ≡ length digits - length left = omega (arith, length-append c.args.whole.now c.args.fraction.now, length-append c.without_trailing.result.0.now c.without_trailing.result.1.now) in
    there ∙ from_scaled c.args.minus digits left zeros_count c.args.exponent c.raised.result c.without_trailing.ensures.left some count shift
